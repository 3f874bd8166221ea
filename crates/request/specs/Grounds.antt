-- The grounds on which a request is refused, and what an admitted one keeps.
use Rattle.std.specs.Prelude.{◌≡◌, ℕ, ◌+◌, ◌<◌, ◌≤◌, List, length, Some, Result, MatchResult}
use Rattle.std.specs.List.{slice_get, Contains, All}
use Rattle.store.specs.declared.fault.Culprit.{Culprit}
use Rattle.store.specs.declared.fault.Culprit.TheVariants.{Nothing, Part, Entry, TablePair}
use Rattle.store.specs.declared.fault.Fault.{Fault}
use Rattle.store.specs.declared.fault.Layer.TheVariants.{Finder}
use Rattle.store.specs.declared.fault.Refusal.{Refusal}
use Rattle.store.specs.declared.fault.Refusal.TheVariants.{StoreBroken, BadPattern, BadPart, BadBindings, BadEntryCount, BadEntry}
use Rattle.store.specs.declared.term.Term.{Term}
use Rattle.store.specs.declared.term.TermKind.TheVariants.{App, Quant}
use Rattle.store.specs.Refusals.{meaning, Named}
use Rattle.store.specs.Rules.{StoreRules}
use Rattle.store.specs.Tables.{Tables, term_at, kids, owner_of, Closed}
use Rattle.request.specs.declared.kinds.LogEntry.{LogEntry}
use Rattle.request.specs.declared.kinds.Pair.{Pair}
use Rattle.request.specs.Asked.{Asked, parts, part_at, BoundClosed}
use Rattle.request.specs.Bindings.{bound_count}
use Rattle.request.specs.Places.{Preorder, variable_at}

-- the pattern is an application with 1 to 16 parts
pub record PatternRules (R : Asked) : Type 0 where
  pub term : Term
  pub symbol : ℕ
  pub there : term_at R.store R.pattern ≡ Some term
  pub applies : term.kind ≡ App symbol
  pub some : 1 ≤ length (parts R)
  pub few : length (parts R) ≤ 16

-- the term is a quantifier, or one stands below it
pub data Quantified (S : Tables) : ℕ → Type 0 where
  itself : {t : ℕ} (x : Term) (q : ℕ) → term_at S t ≡ Some x → x.kind ≡ Quant q → Quantified S t
  below : {t : ℕ} (x : Term) (c : ℕ) → term_at S t ≡ Some x → Contains (kids S x) c → Quantified S c → Quantified S t

-- a part holds no quantifier, and has at most 64 places
pub record PartRules (S : Tables) (p : ℕ) : Type 0 where
  pub plain : Quantified S p → ⊥
  pub places : List ℕ
  pub listed : Preorder S p places
  pub few : length places ≤ 64

-- a place that is a variable is bound to a closed term
abbrev pub PlaceBound : Asked → ℕ → Type 0
PlaceBound R s = (v : ℕ) → variable_at R.store s ≡ Some v → BoundClosed R v

-- every place of a part, however they are listed, is so bound
abbrev pub PartBound : Asked → ℕ → Type 0
PartBound R p = (ts : List ℕ) → Preorder R.store p ts → All (PlaceBound R) ts

pub record BindingRules (R : Asked) : Type 0 where
  pub few : bound_count R.bound ≤ 32
  pub closed : (i p : ℕ) → part_at R i ≡ Some p → PartBound R p

pub record CountRules (R : Asked) : Type 0 where
  pub enough : length (parts R) ≤ length R.entries
  pub few : length R.entries ≤ 64

-- an entry's node is there, its term closed, its pairs at most 64 and inside the table
pub record EntryRules (R : Asked) (e : LogEntry) : Type 0 where
  pub term : ℕ
  pub owned : owner_of R.store e.node ≡ Some term
  pub closed : Closed R.store term
  pub few : e.pairs.len ≤ 64
  pub inside : e.pairs.offset + e.pairs.len ≤ length R.pairs

-- a table pair is one of the first 4,096, and its nodes are there
pub record PairRules (R : Asked) (k : ℕ) (p : Pair) : Type 0 where
  pub early : k < 4096
  pub from_there : p.from < length R.store.nodes
  pub to_there : p.to < length R.store.nodes

abbrev pub EachPart : Asked → Type 0
EachPart R = (i p : ℕ) → part_at R i ≡ Some p → PartRules R.store p

abbrev pub EachEntry : Asked → Type 0
EachEntry R = (j : ℕ) (e : LogEntry) → slice_get R.entries j ≡ Some e → EntryRules R e

abbrev pub EachPair : Asked → Type 0
EachPair R = (k : ℕ) (p : Pair) → slice_get R.pairs k ≡ Some p → PairRules R k p

pub record Admitted (R : Asked) : Type 0 where
  pub store : StoreRules R.store
  pub pattern : PatternRules R
  pub parts : EachPart R
  pub bindings : BindingRules R
  pub count : CountRules R
  pub entries : EachEntry R
  pub pairs : EachPair R

-- a ground holds of a request, at this culprit
pub data AtFault (R : Asked) : Refusal → Culprit → Type 0 where
  store_broken : (StoreRules R.store → ⊥) → AtFault R StoreBroken Nothing
  bad_pattern : (PatternRules R → ⊥) → AtFault R BadPattern Nothing
  bad_part : {i : ℕ} (p : ℕ) → part_at R i ≡ Some p → (PartRules R.store p → ⊥) → AtFault R BadPart (Part i)
  bad_bindings : (BindingRules R → ⊥) → AtFault R BadBindings Nothing
  bad_count : (CountRules R → ⊥) → AtFault R BadEntryCount Nothing
  bad_entry : {j : ℕ} (e : LogEntry) → slice_get R.entries j ≡ Some e → (EntryRules R e → ⊥) → AtFault R BadEntry (Entry j)
  bad_pair : {k : ℕ} (p : Pair) → slice_get R.pairs k ≡ Some p → (PairRules R k p → ⊥) → AtFault R BadEntry (TablePair k)

-- which of two culprits is named first: the lower number, and any entry before a table pair
pub data Before : Culprit → Culprit → Type 0 where
  lower_part : {i j : ℕ} → i < j → Before (Part i) (Part j)
  lower_entry : {i j : ℕ} → i < j → Before (Entry i) (Entry j)
  lower_pair : {i j : ℕ} → i < j → Before (TablePair i) (TablePair j)
  entry_first : {i j : ℕ} → Before (Entry i) (TablePair j)

-- the ground k holds at the culprit that f names, and at none before it
pub record Faulted (R : Asked) (k : Refusal) (f : Fault) : Type 0 where
  pub refusal : f.refusal ≡ k
  pub layer : f.layer ≡ Finder
  pub named : Named (meaning k).names f.culprit
  pub holds : AtFault R k f.culprit
  pub first : (c : Culprit) → Before c f.culprit → AtFault R k c → ⊥

-- no ground with a lower number holds
abbrev pub Clear : Asked → ℕ → Type 0
Clear R n = (k : Refusal) (c : Culprit) → (meaning k).number < n → AtFault R k c → ⊥

pub record Refuses (R : Asked) (f : Fault) : Type 0 where
  pub fault : Faulted R f.refusal f
  pub no_earlier : Clear R (meaning f.refusal).number
  pub not_admitted : Admitted R → ⊥

-- what the check of a request answers
abbrev pub Checked : Asked → Result (Unit {0}) Fault → Type 0
Checked R r = MatchResult r (λ _. Admitted R) (Refuses R)
