use Rattle.std.proofs.Common.{take}
use Rattle.std.specs.declared.ops.ControlFlow.TheVariants.{Continue}
use Rattle.store.specs.Tables.{tables}
use Rattle.rewrite.specs.Kinds.{ways, Reaches}
use Rattle.rewrite.proofs.ways.pass_over.Given as goal

abbrev pub invariant-loop-pair : goal.invariant-loop-pair
invariant-loop-pair l = Reaches (ways (tables l.store) (take l.pair-index l.pairs) l.term) l.idx (Continue l.left)
