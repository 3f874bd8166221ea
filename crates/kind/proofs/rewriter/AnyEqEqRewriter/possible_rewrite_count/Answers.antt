use Rattle.std.proofs.Common.{sym, ap, ◌∙◌}
use Rattle.kind.specs.Kinds.{chosen}
use Rattle.kind.proofs.rewriter.AnyEqEqRewriter.possible_rewrite_count.Goals as goal

pub returns-in-Custom-clause-same : goal.returns-in-Custom-clause-same
returns-in-Custom-clause-same g c = c.possible_rewrite_count-in-Custom.ensures.same ∙ ap chosen (sym c.in-Custom.is)

pub returns-in-Force-clause-same : goal.returns-in-Force-clause-same
returns-in-Force-clause-same g c = c.possible_rewrite_count-in-Force.ensures.same ∙ ap chosen (sym c.in-Force.is)
