use Rattle.std.proofs.Common.{length, sym, ap, ◌∙◌, subst, ⊎_elim, arith}
use Rattle.store.specs.declared.fault.Refusal.TheVariants.{BadPattern}
use Rattle.store.proofs.Decided.{some_not_none, same_some}
use Rattle.store.specs.Refusals.{names_nothing}
use Rattle.request.specs.Asked.{asked}
use Rattle.request.specs.Grounds.{bad_pattern, Faulted}
use Rattle.request.proofs.Faults.{alone}
use Rattle.request.proofs.request.Request.check_pattern.Goals as goal

pub returns-in_default : goal.returns-in_default
returns-in_default c = subst (Faulted (asked c.args.self) BadPattern) (sym c.finder-fault.ensures) (alone _ BadPattern names_nothing (bad_pattern (λ r. some_not_none _ r.term c.in_default.ensures r.there)))

pub returns-in_default-kind : goal.returns-in_default-kind
returns-in_default-kind c = subst (Faulted (asked c.args.self) BadPattern) (sym c.finder-fault.ensures) (alone _ BadPattern names_nothing (bad_pattern (λ r. c.in_default-kind.not-App r.symbol (ap (λ x. x.kind) (same_some _ _ _ (sym c.in-Some.ensures) r.there) ∙ r.applies))))

pub returns-then-count-lt1 : goal.returns-then-count-lt1
returns-then-count-lt1 c = subst (Faulted (asked c.args.self) BadPattern) (sym c.finder-fault.ensures) (alone _ BadPattern names_nothing (bad_pattern (λ r. let long = ap length c.parts-count.ensures in ⊎_elim (λ few. omega (arith, r.some)) (λ many. omega (arith, r.few)) c.then-count-lt1.either)))
