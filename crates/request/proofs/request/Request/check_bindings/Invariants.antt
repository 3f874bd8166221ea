use Rattle.store.proofs.Decided.{Below}
use Rattle.request.specs.Asked.{asked}
use Rattle.request.specs.Grounds.{PartBound}
use Rattle.request.proofs.request.Request.check_bindings.Given as goal

abbrev pub invariant-loop-part : goal.invariant-loop-part
invariant-loop-part l = Below (λ _ p. PartBound (asked l.self) p) l.part-items l.part-index
