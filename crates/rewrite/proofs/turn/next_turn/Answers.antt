use Rattle.std.proofs.Common.{◌≡◌, drop, arith, position, None, Some, rules, ap, ◌∙◌}
use Rattle.std.proofs.lemmas.Grind.{common_steps}
use Rattle.request.specs.Pairs.{is_proper}
use Rattle.rewrite.specs.Kinds.{upcoming}
use Rattle.rewrite.proofs.Numbering.{upcoming_first, upcoming_past}
use Rattle.store.specs.Tables.{tables}
use Rattle.rewrite.proofs.turn.next_turn.Goals as goal

pub returns-in_err-skipped-clause-next : goal.returns-in_err-skipped-clause-next
returns-in_err-skipped-clause-next c =
    let none : position (is_proper (tables c.args.store)) c.in_ok-left.left.now ≡ None = search rules in
    let left : c.in_ok-left.left.now ≡ drop c.args.passed c.args.pairs.now = grind (arith, common_steps, c.in_ok-left.ensures.lookup.0.2) in
    c.from_residual-in_err-skipped.ensures ∙ upcoming_past (tables c.args.store) (record { from = 0; to = 0 }) c.args.passed c.in_ok-left.left.now none ∙ ap (upcoming (tables c.args.store) c.args.passed) left

pub returns-clause-next : goal.returns-clause-next
returns-clause-next c =
    let some : position (is_proper (tables c.args.store)) c.in_ok-left.left.now ≡ Some c.in_ok-skipped.skipped = search rules in
    let left : c.in_ok-left.left.now ≡ drop c.args.passed c.args.pairs.now = grind (arith, common_steps, c.in_ok-left.ensures.lookup.0.2) in
    upcoming_first (tables c.args.store) (record { from = 0; to = 0 }) c.args.passed c.in_ok-skipped.skipped c.in_ok-left.left.now some ∙ ap (upcoming (tables c.args.store) c.args.passed) left
