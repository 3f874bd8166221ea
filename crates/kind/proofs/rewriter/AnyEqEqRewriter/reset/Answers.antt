use Rattle.std.proofs.Common.{sym, ap, ◌∙◌}
use Rattle.kind.specs.Kinds.{chosen}
use Rattle.kind.proofs.rewriter.AnyEqEqRewriter.reset.Goals as goal

pub returns-in-Custom-clause-same : goal.returns-in-Custom-clause-same
returns-in-Custom-clause-same c = c.reset-in-Custom.ensures.same ∙ ap chosen (sym c.in-Custom.is)

pub returns-in-Force-clause-same : goal.returns-in-Force-clause-same
returns-in-Force-clause-same c = c.reset-in-Force.ensures.same ∙ ap chosen (sym c.in-Force.is)

pub returns-in-Basic-clause-first : goal.returns-in-Basic-clause-first
returns-in-Basic-clause-first c = λ S. c.reset.ensures.first S ∙ ap (λ x. (chosen x S).first) (sym c.in-Basic.is)
