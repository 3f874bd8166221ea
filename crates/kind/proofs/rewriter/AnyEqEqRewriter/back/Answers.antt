use Rattle.std.proofs.Common.{sym, ap, ◌∙◌}
use Rattle.rewrite.specs.Meaning.{returned}
use Rattle.kind.specs.Kinds.{chosen}
use Rattle.kind.proofs.rewriter.AnyEqEqRewriter.back.Goals as goal

pub returns-in-Custom-clause-same : goal.returns-in-Custom-clause-same
returns-in-Custom-clause-same c = c.back-in-Custom.ensures.same ∙ ap chosen (sym c.in-Custom.is)

pub returns-in-Force-clause-same : goal.returns-in-Force-clause-same
returns-in-Force-clause-same c = c.back-in-Force.ensures.same ∙ ap chosen (sym c.in-Force.is)

pub returns-in-Basic-clause-goes : goal.returns-in-Basic-clause-goes
returns-in-Basic-clause-goes c = λ S. c.back.ensures.goes S ∙ ap (λ x. returned (chosen x S) c.args.mark) (sym c.in-Basic.is)
