-- What an admitted request gives to those that read it.
use Rattle.std.specs.Prelude.{◌≡◌, ℕ, ◌<◌, ◌≤◌, List, length, Some}
use Rattle.std.specs.List.{All}
use Rattle.store.specs.Tables.{owner_of, Closed}
use Rattle.request.specs.declared.kinds.Pair.{Pair}
use Rattle.request.specs.Asked.{Asked, parts, part_at, entry_term, entry_pairs}
use Rattle.request.specs.Grounds.{Admitted, Quantified, PlaceBound}
use Rattle.request.specs.Places.{Preorder}

-- a part is a finite tree with at most 64 places, without quantifier, its variables bound to closed terms
pub record PartLaw (R : Asked) (i : ℕ) : Type 0 where
  pub term : ℕ
  pub places : List ℕ
  pub at : part_at R i ≡ Some term
  pub there : term < length R.store.terms
  pub tree : Preorder R.store term places
  pub few : length places ≤ 64
  pub plain : Quantified R.store term → ⊥
  pub bound : All (PlaceBound R) places

-- an entry has a closed term and at most 64 pairs
pub record EntryLaw (R : Asked) (j : ℕ) : Type 0 where
  pub term : ℕ
  pub pairs : List Pair
  pub owned : entry_term R j ≡ Some term
  pub closed : Closed R.store term
  pub logged : entry_pairs R j ≡ Some pairs
  pub few : length pairs ≤ 64

pub record Laws (R : Asked) : Type 0 where
  pub each_part : (i : ℕ) → i < length (parts R) → PartLaw R i
  pub each_entry : (j : ℕ) → j < length R.entries → EntryLaw R j
  pub owners_there : (n t : ℕ) → owner_of R.store n ≡ Some t → t < length R.store.terms

abbrev pub AdmittedKeeps : Type 0
AdmittedKeeps = (R : Asked) → Admitted R → Laws R
