use Rattle.std.proofs.Common.{Decides, subst}
use Rattle.std.specs.List.{All}
use Rattle.request.specs.Asked.{asked}
use Rattle.request.specs.Grounds.{PlaceBound}
use Rattle.request.proofs.Parts.{bound_decided}
use Rattle.request.proofs.request.Request.is_part_bound.Goals as goal

pub returns-in-Some : goal.returns-in-Some
returns-in-Some c = bound_decided (asked c.args.self) _ _ _ c.in-Some.ensures.0 (subst (λ l. Decides c.are_places_bound.result (All (PlaceBound (asked c.args.self)) l)) c.as_slice.ensures.items c.are_places_bound.ensures)
