use Rattle.std.proofs.Common.{map, drop}
use Rattle.store.proofs.Laying.{Settles}
use Rattle.store.proofs.rules.are_laid.Given as goal

abbrev pub invariant-loop-item : goal.invariant-loop-item
invariant-loop-item g l = Settles (map g.T.Spanned.lies l.items) l.size l.last l.end (map g.T.Spanned.lies (drop l.item-index l.items))
