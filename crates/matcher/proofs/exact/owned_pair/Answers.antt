use Rattle.std.proofs.Common.{◌≡◌, ap, ◌∙◌, rules}
use mathlib.Core.Path.{transport}
use Rattle.store.specs.Tables.{tables}
use Rattle.matcher.specs.Machine.{pair_hit, IsFirstOf}
use Rattle.matcher.specs.Settings.{owned_at}
use Rattle.matcher.specs.Trees.{view}
use Rattle.matcher.proofs.Offering.{led, first_leads}
use Rattle.matcher.proofs.exact.owned_pair.Goals as goal

pub returns-clause-found : goal.returns-clause-found
returns-clause-found g c =
    let q = c.args.query.now in
    let o = c.in_ok-offered.offered in
    let asked = c.possible_rewrite_count.ensures in
    let first = transport (λ j. IsFirstOf (owned_at g.H.Host.meaning (asked.same j) q (c.mark-mark.ensures j)) o.count c.first_owned.result) c.first_owned.ensures in
    let pair : c.map.result ≡ led o.from c.first_owned.result = search rules in
    ap (λ r. pair_hit r (g.R.EqRewriter.state c.possible_rewrite_count.new.self)) pair ∙ first_leads (view (tables q.store)) q.subpat _ _ o c.first_owned.result c.in_ok-offered.ensures.answer first
