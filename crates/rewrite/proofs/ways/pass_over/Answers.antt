use Rattle.std.proofs.Common.{◌≡◌, ◌+◌, ◌++◌, get_or, drop, sym, subst, ap, ◌∙◌}
use Rattle.std.specs.ControlFlow.{control_flow_from_branch}
use Rattle.std.specs.declared.ops.ControlFlow.TheVariants.{Continue, Break}
use Rattle.request.specs.declared.kinds.Pair.{Pair}
use Rattle.store.specs.Tables.{tables}
use Rattle.rewrite.specs.Kinds.{turned, one_way, ways, Reaches}
use Rattle.rewrite.proofs.Numbering.{reached, behind, walked}
use Rattle.rewrite.proofs.ways.pass_over.Goals as goal

pub returns-in_err-left : goal.returns-in_err-left
returns-in_err-left c =
    let S = tables c.args.store in
    let b = c.args.term in
    let ps = c.args.pairs.now in
    let i = c.loop-pair.pair-index in
    let none : Pair = record { from = 0; to = 0 } in
    let p = get_or ps i none in
    let w = c.in_err-left.field-0.0 in
    let broke : c.pass.result ≡ Break w = c.branch-left.ensures ∙ ap control_flow_from_branch c.in_err-left.is in
    let first = reached (one_way S p b) (one_way S (turned p) b ++ ways S (drop (i + 1) ps) b) c.loop-pair.left w (subst (Reaches (one_way S p b) c.loop-pair.left) broke c.pass.ensures) in
    subst (Reaches (ways S ps b) c.args.idx) (sym c.from_residual.ensures) (walked S b ps i none c.args.idx c.loop-pair.left (Break w) c.loop-pair-test.true c.loop-pair.invariant first)

pub returns-in_err-left-2 : goal.returns-in_err-left-2
returns-in_err-left-2 c =
    let S = tables c.args.store in
    let b = c.args.term in
    let ps = c.args.pairs.now in
    let i = c.loop-pair.pair-index in
    let none : Pair = record { from = 0; to = 0 } in
    let p = get_or ps i none in
    let w = c.in_err-left-2.field-0.0 in
    let more = c.in_ok-left.left in
    let went : c.pass.result ≡ Continue more = c.branch-left.ensures ∙ ap control_flow_from_branch c.in_ok-left.is in
    let broke : c.pass-in-loop-pair.result ≡ Break w = c.branch-left-in-loop-pair.ensures ∙ ap control_flow_from_branch c.in_err-left-2.is in
    let second = subst (λ x. Reaches (one_way S x b) more (Break w)) c.turned.ensures (subst (Reaches (one_way S c.turned.result b) more) broke c.pass-in-loop-pair.ensures) in
    let rest = ways S (drop (i + 1) ps) b in
    let both = behind (one_way S p b) (one_way S (turned p) b ++ rest) c.loop-pair.left more (Break w) (subst (Reaches (one_way S p b) c.loop-pair.left) went c.pass.ensures) (reached (one_way S (turned p) b) rest more w second) in
    subst (Reaches (ways S ps b) c.args.idx) (sym c.from_residual-in_err-left-2.ensures) (walked S b ps i none c.args.idx c.loop-pair.left (Break w) c.loop-pair-test.true c.loop-pair.invariant both)
