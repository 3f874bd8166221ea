use Rattle.std.proofs.Common.{arith, rules, tests}
use Rattle.std.proofs.lemmas.Iterator.{items_from_collect, YieldsList-from_range}
use Rattle.std.proofs.lemmas.Iterator.Consumers.{YieldsList-from_filter_map}
use Rattle.store.specs.Tables.{tables}
use Rattle.rewrite.specs.Meaning.{meant, offer_at}
use Rattle.explain.proofs.offers.first_of.Goals as goal

pub returns : goal.returns
returns g c =
    let answer = (g.R.EqRewriter.rewriter c.args.rewriter.now (tables c.args.query.now.store)).ask c.args.mark (meant g.H.Host.meaning c.args.query.now) in
    items_from_collect _ c.collect.ensures.ran (YieldsList-from_filter_map _ (offer_at answer) (YieldsList-from_range 0 c.args.count c.args.count c.filter_map.ensures.source (omega arith)) c.filter_map.ensures.closure (λ x r q k. search (rules, tests)))
