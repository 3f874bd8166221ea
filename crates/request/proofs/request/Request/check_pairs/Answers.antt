use Rattle.std.proofs.Common.{sym, subst}
use Rattle.std.proofs.lemmas.Option.{slice_get-get_or}
use Rattle.std.proofs.lemmas.Bool.Decides.{not_from_Decides}
use Rattle.store.specs.declared.fault.Refusal.TheVariants.{BadEntry}
use Rattle.store.proofs.Decided.{below_next, below_all}
use Rattle.request.specs.Asked.{asked}
use Rattle.request.specs.Grounds.{PairRules, Faulted}
use Rattle.request.proofs.Faults.{at_pair}
use Rattle.request.proofs.request.Request.check_pairs.Goals as goal

pub returns-then-not-is_good_pair : goal.returns-then-not-is_good_pair
returns-then-not-is_good_pair c = subst (Faulted (asked c.args.self) BadEntry) (sym c.finder.ensures) (at_pair _ _ _ c.requires c.loop-k.invariant (slice_get-get_or _ _ _ c.loop-k-test.true) (not_from_Decides _ c.is_good_pair.ensures c.if-not-is_good_pair.true))

pub loop-k-preserved : goal.loop-k-preserved
loop-k-preserved c = below_next (PairRules (asked c.args.self)) _ _ _ (slice_get-get_or _ _ _ c.loop-k-test.true) (c.is_good_pair.ensures.0 c.if-not-is_good_pair.false) c.loop-k.invariant

pub returns : goal.returns
returns c = below_all (PairRules (asked c.args.self)) _ _ c.loop-k-test.false c.loop-k.invariant
