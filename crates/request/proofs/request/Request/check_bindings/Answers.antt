use Rattle.std.proofs.Common.{sym, ap, ◌∙◌, subst, arith}
use Rattle.std.specs.List.{slice_get}
use Rattle.std.proofs.lemmas.Option.{slice_get-get_or}
use Rattle.std.proofs.lemmas.Bool.Decides.{not_from_Decides}
use Rattle.store.specs.declared.fault.Refusal.TheVariants.{BadBindings}
use Rattle.store.proofs.Decided.{Each, below_next, below_all}
use Rattle.store.specs.Refusals.{names_nothing}
use Rattle.request.specs.Asked.{asked}
use Rattle.request.specs.Grounds.{PartBound, Faulted, bad_bindings}
use Rattle.request.proofs.Faults.{alone}
use Rattle.request.proofs.request.Request.check_bindings.Goals as goal

pub returns-then-count-gt-MOST_BINDINGS : goal.returns-then-count-gt-MOST_BINDINGS
returns-then-count-gt-MOST_BINDINGS c = subst (Faulted (asked c.args.self) BadBindings) (sym c.finder-fault.ensures) (alone _ BadBindings names_nothing (bad_bindings (λ r. omega (arith, r.few, c.count.ensures))))

pub is_part_bound-requires : goal.is_part_bound-requires
is_part_bound-requires c = c.requires c.loop-part.part-index _ (ap (λ l. slice_get l c.loop-part.part-index) (sym c.parts-part-items.ensures) ∙ slice_get-get_or _ _ _ c.loop-part-test.true)

pub returns-then-not-is_part_bound : goal.returns-then-not-is_part_bound
returns-then-not-is_part_bound c = subst (Faulted (asked c.args.self) BadBindings) (sym c.finder-fault.ensures)
    (alone _ BadBindings names_nothing (bad_bindings (λ r. not_from_Decides _ c.is_part_bound.ensures c.if-not-is_part_bound.true (r.closed c.loop-part.part-index _ (ap (λ l. slice_get l c.loop-part.part-index) (sym c.parts-part-items.ensures) ∙ slice_get-get_or _ _ _ c.loop-part-test.true)))))

pub loop-part-preserved : goal.loop-part-preserved
loop-part-preserved c = below_next (λ _ p. PartBound (asked c.args.self) p) _ _ _ (slice_get-get_or _ _ _ c.loop-part-test.true) (c.is_part_bound.ensures.0 c.if-not-is_part_bound.false) c.loop-part.invariant

pub returns : goal.returns
returns c = record {
  few = omega (arith, c.count.ensures);
  closed = subst (Each (λ _ p. PartBound (asked c.args.self) p)) c.parts-part-items.ensures (below_all (λ _ p. PartBound (asked c.args.self) p) _ _ c.loop-part-test.false c.loop-part.invariant);
}
