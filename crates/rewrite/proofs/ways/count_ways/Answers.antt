use Rattle.std.proofs.Common.{arith}
use Rattle.std.proofs.lemmas.List.Sums.{count_by-le-length}
use Rattle.store.specs.Tables.{tables}
use Rattle.rewrite.specs.Kinds.{leaves, turned}
use Rattle.rewrite.proofs.Numbering.{ways_long}
use Rattle.rewrite.proofs.ways.count_ways.Goals as goal

pub returns : goal.returns
returns c =
    let S = tables c.args.store in
    let along = count_by-le-length (λ p. leaves S p c.args.term) c.args.pairs.now in
    let against = count_by-le-length (λ p. leaves S (turned p) c.args.term) c.args.pairs.now in
    record { count = omega (arith, ways_long S c.args.term c.args.pairs.now); few = omega arith }
