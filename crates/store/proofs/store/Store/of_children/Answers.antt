use Rattle.std.proofs.Common.{rules, tests, ◌≡◌, ℕ, [], ◌∷◌, ap, sym, refl, ◌∙◌, map, take, take_all}
use Rattle.std.specs.List.{fold}
use Rattle.std.proofs.lemmas.List.Folds.{fold_stuck}
use Rattle.store.specs.declared.term.HasVar.{HasVar}
use Rattle.store.specs.declared.term.HasVar.TheVariants.{No, Unknown}
use Rattle.store.specs.Tables.{tables, recorded_or}
use Rattle.store.specs.Terms.{of_children}
use Rattle.store.proofs.Marks.{folded, meets_unknown}
use Rattle.store.proofs.store.Store.of_children.Goals as goal

pub returns-then-eq : goal.returns-then-eq
returns-then-eq c =
    let record_of = recorded_or c.args.missing (tables c.args.self) in
    let step = λ (h : HasVar) (k : ℕ). of_children (h ∷ record_of k ∷ []) in
    let found = fold step No (take c.loop-c.c-index c.args.kids.now) in
    let unknown : c.has_var_or-own.result ≡ Unknown = search (rules, tests) in
    let met = ap (λ m. of_children (found ∷ m ∷ [])) (sym c.has_var_or-own.ensures ∙ unknown) ∙ meets_unknown found [] in
    unknown ∙ fold_stuck step Unknown (λ k. refl) No c.args.kids.now c.loop-c.c-index 0 c.loop-c-test.true met ∙ folded record_of No _

pub returns : goal.returns
returns c =
    let record_of = recorded_or c.args.missing (tables c.args.self) in
    c.loop-c.invariant ∙ folded record_of No _ ∙ ap (λ ks. of_children (map record_of ks)) (take_all _ _ c.loop-c-test.false)
