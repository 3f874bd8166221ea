use Rattle.std.proofs.Common.{length, sym, ap, subst, ⊎_elim, arith}
use Rattle.store.specs.declared.fault.Refusal.TheVariants.{BadEntryCount}
use Rattle.store.specs.Refusals.{names_nothing}
use Rattle.request.specs.Asked.{asked}
use Rattle.request.specs.Grounds.{bad_count, Faulted}
use Rattle.request.proofs.Faults.{alone}
use Rattle.request.proofs.request.Request.check_entry_count.Goals as goal

pub returns-then-count-parts : goal.returns-then-count-parts
returns-then-count-parts c = subst (Faulted (asked c.args.self) BadEntryCount) (sym c.finder.ensures) (alone (asked c.args.self) BadEntryCount names_nothing (bad_count (λ r. let long = ap length c.parts.ensures in ⊎_elim (λ few. omega (arith, r.enough)) (λ many. omega (arith, r.few)) c.then-count-parts.either)))
