use Rattle.std.proofs.Common.{◌≡◌, ◌<◌, length, sym, refl, ap, ◌∙◌, subst, rules}
use Rattle.store.specs.Tables.{tables}
use Rattle.request.specs.Asked.{asked}
use Rattle.rewrite.specs.Meaning.{offer_at}
use Rattle.matcher.specs.Settings.{tables_at, answered}
use Rattle.matcher.specs.Stepping.{taken}
use Rattle.matcher.proofs.Missing.{pairs_room, take_turn}
use Rattle.matcher.proofs.machine.PatternMatcher.offer.Goals as goal

pub take-requires-clause-pairs : goal.take-requires-clause-pairs
take-requires-clause-pairs g c = subst (λ n. n < 64) (ap length (sym c.truncate.ensures.kept)) (pairs_room (asked c.args.setting.now.request) _ _ c.args.self.now c.args.level c.requires.sound)

pub returns : goal.returns
returns g c =
    let t = c.args.setting.now in
    let l = c.args.level in
    let S = tables c.query-query.result.store in
    let is : c.and_then-offer.result ≡ taken S l.subpat c.possible_rewrite.result = search rules in
    let here = is ∙ ap (taken S l.subpat) c.possible_rewrite.ensures ∙ (λ j. taken (tables (c.query-query.ensures j).store) l.subpat (offer_at (answered g.H.Host.meaning (c.back.ensures.same j) (c.query-query.ensures j) l.before) c.args.trying.tried)) in
    record {
      steps = take_turn (asked t.request) _ _ c.args.self.now l c.requires.sound c.args.trying c.requires.phase _ c.take.new.self (g.R.EqRewriter.state c.args.rewriter.now) _ _ c.if-trying.false (c.back.ensures.goes (tables_at t)) refl c.truncate.ensures.kept here c.take.ensures;
      same = c.back.ensures.same;
    }
