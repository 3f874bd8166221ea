-- Pairs of nodes.
use Rattle.std.specs.Prelude.{Bool, not, ◌&&◌, ◌==◌, length, nat_lt}
use Rattle.store.specs.Tables.{Tables}
use Rattle.request.specs.declared.kinds.Pair.{Pair}

-- both ends are nodes of the store, and two
abbrev pub is_proper : Tables → Pair → Bool
is_proper S p = not (p.from == p.to) && (nat_lt p.from (length S.nodes) && nat_lt p.to (length S.nodes))
