use Rattle.std.proofs.Common.{◌≡◌}
use Rattle.std.specs.List.{slice_get}
use Rattle.host.specs.Reading.{link_at, root}
use Rattle.host.proofs.classes.root.Given as goal

abbrev pub invariant-loop-next : goal.invariant-loop-next
invariant-loop-next l = (root l.links l.at ≡ root l.links l.n) × (l.next ≡ link_at l.at (slice_get l.links l.at))

abbrev pub decreases-loop-next : goal.decreases-loop-next
decreases-loop-next l = l.at
