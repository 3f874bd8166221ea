use Rattle.std.proofs.Common.{sym, ap, ◌∙◌, subst}
use Rattle.std.specs.List.{slice_get}
use Rattle.std.proofs.lemmas.Option.{slice_get-get_or}
use Rattle.std.proofs.lemmas.Bool.Decides.{not_from_Decides}
use Rattle.store.specs.declared.fault.Refusal.TheVariants.{BadPart}
use Rattle.store.proofs.Decided.{Below, Each, below_next, below_all}
use Rattle.request.specs.Asked.{asked}
use Rattle.request.specs.Grounds.{PartRules, Faulted}
use Rattle.request.proofs.Faults.{at_part}
use Rattle.request.proofs.Parts.{part_there}
use Rattle.request.proofs.request.Request.check_parts.Goals as goal

pub is_good_part-requires : goal.is_good_part-requires
is_good_part-requires c = record { ruled = c.requires; there = part_there (asked c.args.self) c.loop-i.i _ c.requires (ap (λ l. slice_get l c.loop-i.i) (sym c.parts-part-items.ensures) ∙ slice_get-get_or _ _ _ c.loop-i-test.true) }

pub returns-then-not-is_good_part : goal.returns-then-not-is_good_part
returns-then-not-is_good_part c =
    let R = asked c.args.self in
    let same = c.parts-part-items.ensures in
    subst (Faulted R BadPart) (sym c.finder.ensures)
    (at_part R c.loop-i.i _ (subst (λ l. Below (λ _ p. PartRules R.store p) l c.loop-i.i) same c.loop-i.invariant) (ap (λ l. slice_get l c.loop-i.i) (sym same) ∙ slice_get-get_or _ _ _ c.loop-i-test.true) (not_from_Decides _ c.is_good_part.ensures c.if-not-is_good_part.true))

pub loop-i-preserved : goal.loop-i-preserved
loop-i-preserved c = below_next (λ _ p. PartRules (asked c.args.self).store p) _ _ _ (slice_get-get_or _ _ _ c.loop-i-test.true) (c.is_good_part.ensures.0 c.if-not-is_good_part.false) c.loop-i.invariant

pub returns : goal.returns
returns c = subst (Each (λ _ p. PartRules (asked c.args.self).store p)) c.parts-part-items.ensures (below_all (λ _ p. PartRules (asked c.args.self).store p) _ _ c.loop-i-test.false c.loop-i.invariant)
