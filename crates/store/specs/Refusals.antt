-- The refusals: the number of each, and what each names as at fault.
use Rattle.std.specs.Prelude.{ℕ}
use Rattle.store.specs.declared.fault.Culprit.{Culprit}
use Rattle.store.specs.declared.fault.Culprit.TheVariants.{Nothing, Part, Entry, TablePair, FoundPair}
use Rattle.store.specs.declared.fault.Fault.{Fault}
use Rattle.store.specs.declared.fault.Layer.TheVariants.{Finder}
use Rattle.store.specs.declared.fault.Refusal.{Refusal}
use Rattle.store.specs.declared.fault.Refusal.TheVariants.{StoreBroken, BadPattern, BadPart, BadBindings, BadEntryCount, BadEntry, PartNotOpen, EntryNotWaiting, FindPending, FindNotPending, NoPartOpen, BadEnds, EndsApart, EndsLooselyJoined, HostFull}

-- what kind of thing a refusal names
pub data Names : Type 0 where
  nothing : Names
  a_part : Names
  an_entry : Names
  entry_or_pair : Names
  found_pair : Names

pub record Meaning : Type 0 where
  pub number : ℕ
  pub names : Names

abbrev pub meaning : Refusal → Meaning
meaning StoreBroken = record { number = 1; names = nothing }
meaning BadPattern = record { number = 2; names = nothing }
meaning BadPart = record { number = 3; names = a_part }
meaning BadBindings = record { number = 4; names = nothing }
meaning BadEntryCount = record { number = 5; names = nothing }
meaning BadEntry = record { number = 6; names = entry_or_pair }
meaning PartNotOpen = record { number = 7; names = a_part }
meaning EntryNotWaiting = record { number = 8; names = an_entry }
meaning FindPending = record { number = 9; names = nothing }
meaning FindNotPending = record { number = 10; names = nothing }
meaning NoPartOpen = record { number = 11; names = nothing }
meaning BadEnds = record { number = 12; names = found_pair }
meaning EndsApart = record { number = 13; names = found_pair }
meaning EndsLooselyJoined = record { number = 14; names = found_pair }
meaning HostFull = record { number = 15; names = found_pair }

-- a culprit is of the kind that a refusal names
pub data Named : Names → Culprit → Type 0 where
  names_nothing : Named nothing Nothing
  names_part : {i : ℕ} → Named a_part (Part i)
  names_entry : {j : ℕ} → Named an_entry (Entry j)
  names_one_entry : {j : ℕ} → Named entry_or_pair (Entry j)
  names_one_pair : {k : ℕ} → Named entry_or_pair (TablePair k)
  names_found : {i j k : ℕ} → Named found_pair (FoundPair i j k)

-- a fault that arose in the finder's own layer
abbrev pub in_finder : Refusal → Culprit → Fault
in_finder k c = record { refusal = k; layer = Finder; culprit = c }
