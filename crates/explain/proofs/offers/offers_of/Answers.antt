use Rattle.std.proofs.Common.{[], vec_items, sym, ap, ◌∙◌}
use Rattle.store.specs.Tables.{tables}
use Rattle.rewrite.specs.Meaning.{counted}
use Rattle.kind.specs.Kinds.{chosen, of_kind}
use Rattle.explain.specs.Offering.{asked}
use Rattle.explain.proofs.Offered.{all_offered}
use Rattle.explain.proofs.offers.offers_of.Goals as goal

pub returns : goal.returns
returns g c =
    let S = tables c.args.store in
    let query = asked (g.H.Host.meaning c.args.host.now S) c.args.query in
    let made = c.new-rewriter.result in
    let before = ap (λ ρ. (ρ S).ask c.mark-mark.result query) c.possible_rewrite_count.ensures.same in
    let at_first = ap (λ s. (chosen made S).ask s query) (c.mark-mark.ensures ∙ c.new-rewriter.ensures.first S) in
    let meant_so = ap (λ ρ. ρ.ask (of_kind c.args.query.kind c.args.pairs.now [] S).first query) (c.new-rewriter.ensures.means S) in
    let told = c.in-Some.ensures.answer ∙ ap (λ s. counted ((chosen made S).ask s query)) (sym c.mark-mark.ensures) ∙ ap counted (sym before) in
    all_offered _ c.in-Some.offered (vec_items c.in_ok-tos.tos) told c.in_ok-tos.ensures ∙ before ∙ at_first ∙ meant_so
