use Rattle.std.proofs.Common.{◌≡◌, ◌+◌, ◌++◌, length, Some, sym, ap, ◌∙◌, arith, length-append}
use Rattle.store.specs.Tables.{tables}
use Rattle.rewrite.specs.Kinds.{ways}
use Rattle.rewrite.proofs.Numbering.{far_some, ways_append}
use Rattle.rewrite.proofs.complex.ComplexEqEqRewriter.possible_rewrite_count.Goals as goal

pub returns-clause-answer : goal.returns-clause-answer
returns-clause-answer g c =
    let S = tables c.args.query.now.store in
    let own = c.args.self.now.own.now in
    let booked = c.args.self.now.booked.now in
    let b = c.args.query.now.blame in
    let long = ap length (ways_append S b own booked) ∙ length-append (ways S own b) (ways S booked b) in
    let sum : c.count_ways.result + c.count_ways-2.result ≡ length (ways S (own ++ booked) b) = omega (arith, long, c.count_ways.ensures.count, c.count_ways-2.ensures.count) in
    ap (λ n. Some (record { from = c.in_ok-near.near.from; count = n })) sum ∙ sym (far_some (ways S (own ++ booked) b) c.in_ok-near.near (sym c.in_ok-near.ensures))
