-- What a pattern's variables are bound to.
use Rattle.std.specs.Prelude.{ℕ, List, length, Some, None, Option}
use Rattle.std.specs.List.{slice_get}
use Rattle.store.specs.Tables.{Tables, owner_of}
use Rattle.request.specs.declared.kinds.TermIdx.{TermIdx}
use Rattle.request.specs.declared.kinds.ENodeIdx.{ENodeIdx}
use Rattle.request.specs.declared.kinds.MatchKind.{MatchKind}
use Rattle.request.specs.declared.kinds.MatchKind.TheVariants.{Terms, Nodes}

-- all terms, or all nodes
pub data Bindings : Type 0 where
  of_terms : List TermIdx → Bindings
  of_nodes : List ENodeIdx → Bindings

abbrev pub bindings : MatchKind → Bindings
bindings (Terms r) = of_terms r.now
bindings (Nodes r) = of_nodes r.now

abbrev pub bound_count : Bindings → ℕ
bound_count (of_terms xs) = length xs
bound_count (of_nodes xs) = length xs

abbrev pub the_term : Option TermIdx → Option ℕ
the_term None = None
the_term (Some x) = Some x.0

-- a node stands for its owner
abbrev pub its_owner : Tables → Option ENodeIdx → Option ℕ
its_owner S None = None
its_owner S (Some n) = owner_of S n.0

-- variable v is bound by the item at place v
abbrev pub bound_term : Tables → Bindings → ℕ → Option ℕ
bound_term S (of_terms xs) v = the_term (slice_get xs v)
bound_term S (of_nodes xs) v = its_owner S (slice_get xs v)
