use Rattle.std.proofs.Common.{◌++◌, sym, ap, ◌∙◌}
use Rattle.std.specs.List.{slice_get}
use Rattle.store.specs.Tables.{tables}
use Rattle.rewrite.specs.Kinds.{ways}
use Rattle.rewrite.proofs.Numbering.{ways_append, reached, behind, told}
use Rattle.rewrite.proofs.complex.ComplexEq.way.Goals as goal

pub returns-in-Break : goal.returns-in-Break
returns-in-Break c =
    let S = tables c.args.store in
    let own = c.args.self.own.now in
    let booked = c.args.self.booked.now in
    let b = c.args.term in
    sym (ap (λ l. slice_get l c.args.idx) (ways_append S b own booked) ∙ reached (ways S own b) (ways S booked b) c.args.idx c.in-Break.way c.in-Break.ensures)

pub returns-in-Continue : goal.returns-in-Continue
returns-in-Continue c =
    let S = tables c.args.store in
    let own = c.args.self.own.now in
    let booked = c.args.self.booked.now in
    let b = c.args.term in
    let reaches = behind (ways S own b) (ways S booked b) c.args.idx c.in-Continue.left c.pass_over-in-Continue.result c.in-Continue.ensures c.pass_over-in-Continue.ensures in
    c.break_value.ensures.value ∙ told (ways S own b ++ ways S booked b) c.args.idx c.pass_over-in-Continue.result reaches ∙ ap (λ l. slice_get l c.args.idx) (sym (ways_append S b own booked))
