use Rattle.std.proofs.Common.{sym, subst}
use Rattle.std.proofs.lemmas.Option.{slice_get-get_or}
use Rattle.std.proofs.lemmas.Bool.Decides.{not_from_Decides}
use Rattle.store.specs.declared.fault.Refusal.TheVariants.{BadEntry}
use Rattle.store.proofs.Decided.{below_next, below_all}
use Rattle.request.specs.Asked.{asked}
use Rattle.request.specs.Grounds.{EntryRules, Faulted}
use Rattle.request.proofs.Faults.{at_entry}
use Rattle.request.proofs.request.Request.check_entries.Goals as goal

pub returns-then-not-is_good_entry : goal.returns-then-not-is_good_entry
returns-then-not-is_good_entry c = subst (Faulted (asked c.args.self) BadEntry) (sym c.finder.ensures) (at_entry _ _ _ c.loop-j.invariant (slice_get-get_or _ _ _ c.loop-j-test.true) (not_from_Decides _ c.is_good_entry.ensures c.if-not-is_good_entry.true))

pub loop-j-preserved : goal.loop-j-preserved
loop-j-preserved c = below_next (λ _ e. EntryRules (asked c.args.self) e) _ _ _ (slice_get-get_or _ _ _ c.loop-j-test.true) (c.is_good_entry.ensures.0 c.if-not-is_good_entry.false) c.loop-j.invariant

pub returns : goal.returns
returns c = below_all (λ _ e. EntryRules (asked c.args.self) e) _ _ c.loop-j-test.false c.loop-j.invariant
