use Rattle.std.proofs.Common.{[], length, ap, sym, append-nil, arith}
use Rattle.std.proofs.lemmas.List.{length_push}
use Rattle.std.proofs.lemmas.Result.{MatchResult-from_err}
use Rattle.request.specs.Places.{none}
use Rattle.request.proofs.Walks.{longer, too_many, listed_all, one_more}
use Rattle.request.proofs.places.+walk.Goals as goal

pub walk-requires : goal.walk-requires
walk-requires t c =
    let inv = c.loop-c.invariant in
    let more = longer _ _ _ inv.0 _ c.in_ok-push.ensures.0 inv.2 in
    (omega (arith, more, inv.3, c.decreases), tt)

pub loop-c-init : goal.loop-c-init
loop-c-init t c = ([], none, sym (append-nil _), omega (arith, ap length c.in_ok-push.ensures.0, length_push c.args.out.now c.args.t, c.in_ok-push.ensures.1))

pub loop-c-preserved : goal.loop-c-preserved
loop-c-preserved t c =
    let inv = c.loop-c.invariant in
    let more = c.in_ok-walk.ensures in
    let next = one_more _ _ _ _ inv.0 more.0 _ c.loop-c-test.true inv.1 inv.2 more.1 more.2 in
    (next.0, next.1, next.2, more.3)

pub returns-in_err-walk : goal.returns-in_err-walk
returns-in_err-walk t c =
    let inv = c.loop-c.invariant in
    MatchResult-from_err c.from_residual-in_err-walk.result _ _ c.from_residual-in_err-walk.ensures.0
    (λ _. too_many _ _ _ _ _ c.opened-c-items.ensures c.in_ok-push.ensures.0 _ _ inv.0 c.loop-c-test.true inv.1 inv.2 c.in_err-walk.ensures)

pub returns : goal.returns
returns t c =
    let inv = c.loop-c.invariant in
    let all = listed_all _ _ _ _ _ c.opened-c-items.ensures c.in_ok-push.ensures.0 _ _ inv.0 c.loop-c-test.false inv.1 inv.2 in
    (all.0, all.1, all.2, inv.3)
