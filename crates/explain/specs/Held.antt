-- What the tables of a store hold as they are read, and what a line adds. Assumes nothing.
use Rattle.std.specs.Prelude.{ℕ, List, [], ◌∷◌, ◌++◌, map, length, Some, None, Option, slice_set}
use Rattle.std.specs.List.{slice_get}
use Rattle.store.specs.declared.term.Term.{Term}
use Rattle.store.specs.declared.term.TermKind.{TermKind}
use Rattle.store.specs.declared.term.HasVar.{HasVar}
use Rattle.store.specs.declared.term.HasVar.TheVariants.{No}
use Rattle.store.specs.Tables.{Tables, recorded_or}
use Rattle.store.specs.Terms.{follows}

abbrev pub empty : Tables
empty = record { terms = []; nodes = []; cells = []; symbols = []; names = [] }

abbrev pub with_symbol : Tables → List ℕ → Tables
with_symbol S name = record S {
  symbols = S.symbols ++ (record { offset = length S.names; len = length name } ∷ []);
  names = S.names ++ name;
}

-- a child that is no earlier term counts as one without a variable
abbrev pub new_term : Tables → TermKind → List ℕ → Term
new_term S kind children = record {
  kind = kind;
  has_var = follows kind (map (recorded_or No S) children);
  child_ids = record { offset = length S.cells; len = length children };
}

abbrev pub with_term : Tables → TermKind → List ℕ → Tables
with_term S kind children = record S {
  terms = S.terms ++ (new_term S kind children ∷ []);
  cells = S.cells ++ children;
}

abbrev pub with_node : Tables → ℕ → Tables
with_node S owner = record S { nodes = S.nodes ++ (record { owner = owner } ∷ []) }

abbrev pub remarked : List Term → ℕ → HasVar → Option Term → List Term
remarked ts t m None = ts
remarked ts t m (Some x) = slice_set ts t (record x { has_var = m })

-- another record in place of the one that follows from the children
abbrev pub with_mark : Tables → ℕ → HasVar → Tables
with_mark S t m = record S { terms = remarked S.terms t m (slice_get S.terms t) }
