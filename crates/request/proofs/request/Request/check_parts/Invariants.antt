use Rattle.store.proofs.Decided.{Below}
use Rattle.request.specs.Asked.{asked}
use Rattle.request.specs.Grounds.{PartRules}
use Rattle.request.proofs.request.Request.check_parts.Given as goal

abbrev pub invariant-loop-i : goal.invariant-loop-i
invariant-loop-i l = Below (λ _ p. PartRules (asked l.self).store p) l.part-items l.i
