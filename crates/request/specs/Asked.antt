-- A request by what its tables hold.
use Rattle.std.specs.Prelude.{◌≡◌, ℕ, List, [], Some, None, Option}
use Rattle.std.specs.List.{slice_get}
use Rattle.std.specs.Option.{unwrap_or}
use Rattle.store.specs.Spans.{cells_of}
use Rattle.store.specs.Tables.{Tables, tables, children_of, owner_of, Closed}
use Rattle.request.specs.declared.kinds.LogEntry.{LogEntry}
use Rattle.request.specs.declared.kinds.Pair.{Pair}
use Rattle.request.specs.declared.request.Request.{Request}
use Rattle.request.specs.Bindings.{Bindings, bindings, bound_term}

pub record Asked : Type 0 where
  pub store : Tables
  pub pattern : ℕ
  pub bound : Bindings
  pub entries : List LogEntry
  pub pairs : List Pair

abbrev pub asked : Request → Asked
asked r = record { store = tables r.store; pattern = r.pattern; bound = bindings r.bound; entries = r.entries.now; pairs = r.pairs.now }

-- the pattern's children are its parts
abbrev pub parts : Asked → List ℕ
parts R = unwrap_or (children_of R.store R.pattern) []

abbrev pub part_at : Asked → ℕ → Option ℕ
part_at R i = slice_get (parts R) i

-- a variable is bound to a closed term of the store
pub record BoundClosed (R : Asked) (v : ℕ) : Type 0 where
  pub term : ℕ
  pub bound : bound_term R.store R.bound v ≡ Some term
  pub closed : Closed R.store term

-- an entry's term is its node's owner
abbrev pub term_of : Tables → Option LogEntry → Option ℕ
term_of S None = None
term_of S (Some e) = owner_of S e.node

abbrev pub entry_term : Asked → ℕ → Option ℕ
entry_term R j = term_of R.store (slice_get R.entries j)

-- an entry's logged pairs
abbrev pub pairs_in : Asked → Option LogEntry → Option (List Pair)
pairs_in R None = None
pairs_in R (Some e) = cells_of R.pairs e.pairs

abbrev pub entry_pairs : Asked → ℕ → Option (List Pair)
entry_pairs R j = pairs_in R (slice_get R.entries j)
