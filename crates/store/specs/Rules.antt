-- The rules of a store.
use Rattle.std.specs.Prelude.{◌≡◌, ℕ, ◌<◌, ◌≤◌, List, map, length, Some, Result, MatchResult}
use Rattle.std.specs.List.{All}
use Rattle.store.specs.declared.fault.Fault.{Fault}
use Rattle.store.specs.declared.fault.Refusal.TheVariants.{StoreBroken}
use Rattle.store.specs.declared.fault.Culprit.TheVariants.{Nothing}
use Rattle.store.specs.declared.term.Term.{Term}
use Rattle.store.specs.Refusals.{in_finder}
use Rattle.store.specs.Spans.{Laid}
use Rattle.store.specs.Terms.{follows, Listed, Childless}
use Rattle.store.specs.Tables.{Tables, term_at, kids, name_of, recorded}

-- a symbol before this one has its name
pub record NamedBefore (S : Tables) (j : ℕ) : Type 0 where
  pub other : ℕ
  pub name : List ℕ
  pub earlier : other < j
  pub there : name_of S other ≡ Some name
  pub here : name_of S j ≡ Some name

-- the rules for the term numbered t
pub record TermRules (S : Tables) (t : ℕ) (x : Term) : Type 0 where
  pub children_below : All (λ c. c < t) (kids S x)
  pub variable_childless : Childless x.kind x.child_ids.len
  pub symbol_listed : Listed x.kind (length S.symbols)
  pub has_var_follows : x.has_var ≡ follows x.kind (map (recorded S) (kids S x))

pub record StoreRules (S : Tables) : Type 0 where
  pub few_terms : length S.terms ≤ 4096
  pub few_nodes : length S.nodes ≤ 4096
  pub few_cells : length S.cells ≤ 16384
  pub few_symbols : length S.symbols ≤ 4096
  pub few_name_bytes : length S.names ≤ 65536
  pub children_laid : Laid (map (λ x. x.child_ids) S.terms) (length S.cells)
  pub names_laid : Laid S.symbols (length S.names)
  pub names_distinct : (j : ℕ) → j < length S.symbols → NamedBefore S j → ⊥
  pub terms_ruled : (t : ℕ) (x : Term) → term_at S t ≡ Some x → TermRules S t x
  pub owners_listed : All (λ n. n.owner < length S.terms) S.nodes

-- what the check of a store answers
abbrev pub StoreChecked : Tables → Result (Unit {0}) Fault → Type 0
StoreChecked S r = MatchResult r (λ _. StoreRules S) (λ f. (StoreRules S → ⊥) × (f ≡ in_finder StoreBroken Nothing))
