use Rattle.matcher.specs.Settings.{Going, left_at}
use Rattle.matcher.proofs.machine.PatternMatcher.run.Given as goal

abbrev pub invariant-loop : goal.invariant-loop
invariant-loop g l = Going g.H.Host.meaning g.R.EqRewriter.rewriter g.R.EqRewriter.state l.setting l.initial.self l.initial.rewriter l.self l.rewriter

abbrev pub decreases-loop : goal.decreases-loop
decreases-loop g l = (left_at g.H.Host.meaning g.R.EqRewriter.rewriter g.R.EqRewriter.state l.setting l.initial.rewriter l.self l.rewriter).steps
