use Rattle.std.proofs.Common.{length, not, ◌&&◌, ◌==◌, arith, rules, tests}
use Rattle.std.proofs.lemmas.Iterator.{items_from_collect, YieldsList-from_range}
use Rattle.std.proofs.lemmas.Iterator.Consumers.{YieldsList-from_filter}
use Rattle.store.specs.Tables.{tables}
use Rattle.explain.proofs.show_host.same_as.Goals as goal

pub returns : goal.returns
returns g c =
    let same = (g.H.Host.meaning c.args.host.now (tables c.args.store)).loose in
    let count = length c.args.store.nodes.now in
    items_from_collect _ c.collect.ensures.ran (YieldsList-from_filter _ (λ other. not (other == c.args.node) && same c.args.node other) (YieldsList-from_range 0 count count c.filter.ensures.source (omega arith)) c.filter.ensures.closure (λ x r q k. search (rules, tests)))
