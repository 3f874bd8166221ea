use Rattle.std.proofs.Common.{◌≡◌, true, sym, ap, ◌∙◌, subst}
use Rattle.request.specs.Asked.{asked}
use Rattle.rewrite.specs.Meaning.{RewriterMeaning}
use Rattle.matcher.specs.Settings.{tables_at}
use Rattle.matcher.proofs.Searching.{start_sound, found_at, missed_at}
use Rattle.matcher.proofs.machine.PatternMatcher.search.Goals as goal

pub run-requires : goal.run-requires
run-requires g c =
    let t = c.args.setting.now in
    let S = tables_at t in
    let same = ap (λ f. f S) c.reset.ensures.same in
    let fin = c.in_ok-places.ensures in
    start_sound (asked t.request) c.new-matcher.result c.args.blame c.args.subpat c.new-matcher.ensures (g.R.EqRewriter.rewriter c.reset.new.self S) _ (g.R.EqRewriter.state c.reset.new.self) (_, fin.0, fin.1)
    (subst (λ n. (g.R.EqRewriter.rewriter c.reset.new.self S).known n ≡ true) (ap (λ (r : RewriterMeaning). r.first) same ∙ sym (c.reset.ensures.first S)) (g.met.R.EqRewriter.rules c.reset.new.self S).first_known)

pub returns-then-succeeded-clause-searched : goal.returns-then-succeeded-clause-searched
returns-then-succeeded-clause-searched g c =
    let t = c.args.setting.now in
    let S = tables_at t in
    let fin = c.in_ok-places.ensures in
    found_at (asked t.request) c.new-matcher.result c.args.blame c.args.subpat c.new-matcher.ensures _ _ _ _ t.aside.now c.run.new.self _ _ (_, fin.0, fin.1) (c.reset.ensures.first S) (ap (λ f. f S) c.reset.ensures.same) (ap (λ f. f S) c.run.ensures.same) c.run.ensures.ends (sym c.succeeded.ensures ∙ c.if-succeeded.true)

pub returns-clause-searched : goal.returns-clause-searched
returns-clause-searched g c =
    let t = c.args.setting.now in
    let S = tables_at t in
    let fin = c.in_ok-places.ensures in
    missed_at (asked t.request) c.new-matcher.result c.args.blame c.args.subpat c.new-matcher.ensures _ _ _ _ t.aside.now c.run.new.self _ _ (_, fin.0, fin.1) (c.reset.ensures.first S) (ap (λ f. f S) c.reset.ensures.same) (ap (λ f. f S) c.run.ensures.same) c.run.ensures.ends (g.R.EqRewriter.state c.reset-2.new.self) (sym c.succeeded.ensures ∙ c.if-succeeded.false) (c.reset-2.ensures.first S)
