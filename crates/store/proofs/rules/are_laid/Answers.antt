use Rattle.store.proofs.Laying.{begins}
use Rattle.store.proofs.rules.are_laid.Goals as goal

pub loop-item-init : goal.loop-item-init
loop-item-init g c = begins _ _
