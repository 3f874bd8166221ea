-- A store by what its tables hold.
use Rattle.std.specs.Prelude.{◌≡◌, ℕ, Bool, false, ◌==◌, List, [], Some, None, Option}
use Rattle.std.specs.List.{slice_get}
use Rattle.std.specs.Option.{unwrap_or}
use Rattle.store.specs.declared.span.Span.{Span}
use Rattle.store.specs.declared.term.Term.{Term}
use Rattle.store.specs.declared.term.ENode.{ENode}
use Rattle.store.specs.declared.term.HasVar.{HasVar}
use Rattle.store.specs.declared.term.HasVar.TheVariants.{No, Unknown}
use Rattle.store.specs.declared.store.Store.{Store}
use Rattle.store.specs.Spans.{cells_of}

pub record Tables : Type 0 where
  pub terms : List Term
  pub nodes : List ENode
  pub cells : List ℕ
  pub symbols : List Span
  pub names : List ℕ

abbrev pub tables : Store → Tables
tables s = record { terms = s.terms.now; nodes = s.nodes.now; cells = s.cells.now; symbols = s.symbols.now; names = s.names.now }

abbrev pub term_at : Tables → ℕ → Option Term
term_at S t = slice_get S.terms t

-- a term's children: none for one whose span lies outside the cells
abbrev pub kids : Tables → Term → List ℕ
kids S x = unwrap_or (cells_of S.cells x.child_ids) []

abbrev pub children_in : Tables → Option Term → Option (List ℕ)
children_in S None = None
children_in S (Some x) = cells_of S.cells x.child_ids

abbrev pub children_of : Tables → ℕ → Option (List ℕ)
children_of S t = children_in S (term_at S t)

abbrev pub owner_in : Option ENode → Option ℕ
owner_in None = None
owner_in (Some n) = Some n.owner

abbrev pub owner_of : Tables → ℕ → Option ℕ
owner_of S n = owner_in (slice_get S.nodes n)

abbrev pub name_in : Tables → Option Span → Option (List ℕ)
name_in S None = None
name_in S (Some s) = cells_of S.names s

abbrev pub name_of : Tables → ℕ → Option (List ℕ)
name_of S f = name_in S (slice_get S.symbols f)

-- what is recorded of a term, and of one that is missing
abbrev pub record_or : HasVar → Option Term → HasVar
record_or m None = m
record_or m (Some x) = x.has_var

abbrev pub recorded_or : HasVar → Tables → ℕ → HasVar
recorded_or m S t = record_or m (term_at S t)

-- what is recorded of a term; unknown for one that is missing
abbrev pub recorded : Tables → ℕ → HasVar
recorded S t = recorded_or Unknown S t

-- the owner of a node is this term
abbrev pub is_the : Option ℕ → ℕ → Bool
is_the None t = false
is_the (Some o) t = (o == t)

-- a term of the store that holds no variable and no quantifier
abbrev pub Closed : Tables → ℕ → Type 0
Closed S t = recorded S t ≡ No
