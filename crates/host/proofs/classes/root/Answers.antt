use Rattle.std.proofs.Common.{◌<◌, ◌≤◌, sym, ap, ◌∙◌, subst, arith}
use Rattle.host.specs.Reading.{root}
use Rattle.host.proofs.Roots.{root_next, root_end}
use Rattle.host.proofs.classes.root.Goals as goal

pub loop-next-preserved : goal.loop-next-preserved
loop-next-preserved c =
    let l = c.args.links.now in
    let is = c.loop-next.invariant.1 in
    (ap (root l) is ∙ sym (root_next l c.loop-next.at (subst (λ n. n < c.loop-next.at) is (omega arith))) ∙ c.loop-next.invariant.0, c.link-next-in-loop-next.ensures)

pub returns : goal.returns
returns c = sym (root_end c.args.links.now c.loop-next.at (subst (λ n. c.loop-next.at ≤ n) c.loop-next.invariant.1 c.loop-next-test.false)) ∙ c.loop-next.invariant.0
