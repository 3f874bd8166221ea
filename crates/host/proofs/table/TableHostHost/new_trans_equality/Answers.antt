use Rattle.std.proofs.Common.{◌≡◌, Some, sym, ap, ◌∙◌, subst, arith}
use Rattle.std.specs.List.{slice_get}
use Rattle.std.proofs.lemmas.Result.{err_from_is_err_and}
use Rattle.store.specs.Tables.{tables}
use Rattle.host.specs.Meaning.{known, with_listed}
use Rattle.host.specs.Tabled.{tabled}
use Rattle.host.proofs.Making.{refused_ends, refused_permit, refused_full, made_new}
use Rattle.host.proofs.table.TableHostHost.new_trans_equality.Goals as goal

pub returns-then-not-is_proper : goal.returns-then-not-is_proper
returns-then-not-is_proper g c = refused_ends _ _ _ _ _ (sym c.is_proper.ensures ∙ c.if-not-is_proper.true) c.refused.ensures

pub returns-in_err-permit : goal.returns-in_err-permit
returns-in_err-permit g c =
    let p = err_from_is_err_and c.from_residual.result c.from_residual.ensures.1 in
    refused_permit _ _ _ _ _ _ _ (sym c.is_proper.ensures ∙ c.if-not-is_proper.false) c.in_err-permit.ensures p.1 p.2

pub returns-in-Some : goal.returns-in-Some
returns-in-Some g c = known (sym c.is_proper.ensures ∙ c.if-not-is_proper.false) c.in_ok-permit.ensures (subst (λ l. slice_get l c.in-Some.k ≡ Some c.args.ends) c.as_slice.ensures.items c.in-Some.ensures)

pub returns-in-Ok : goal.returns-in-Ok
returns-in-Ok g c =
    let m = tabled g.P.Partition.joins (tables c.args.store) c.args.self.now in
    let pushed = c.in-Ok.ensures in
    made_new _ m _ _ _ _ (sym c.is_proper.ensures ∙ c.if-not-is_proper.false) c.in_ok-permit.ensures
    (λ k e. c.in_default.ensures k (ap (λ l. slice_get l k) c.as_slice.ensures.items ∙ e))
    (omega (arith, pushed.1)) c.count-k.ensures.count (ap (with_listed m) pushed.0)

pub returns-in-Err : goal.returns-in-Err
returns-in-Err g c =
    let m = tabled g.P.Partition.joins (tables c.args.store) c.args.self.now in
    let stuck = c.in-Err.ensures in
    refused_full _ m _ _ _ _ (sym c.is_proper.ensures ∙ c.if-not-is_proper.false) c.in_ok-permit.ensures
    (λ k e. c.in_default.ensures k (ap (λ l. slice_get l k) c.as_slice.ensures.items ∙ e))
    (omega (arith, stuck.0)) c.refused-in-Err.ensures (ap (with_listed m) stuck.1)
