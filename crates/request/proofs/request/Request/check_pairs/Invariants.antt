use Rattle.store.proofs.Decided.{Below}
use Rattle.request.specs.Asked.{asked}
use Rattle.request.specs.Grounds.{PairRules}
use Rattle.request.proofs.request.Request.check_pairs.Given as goal

abbrev pub invariant-loop-k : goal.invariant-loop-k
invariant-loop-k l = Below (PairRules (asked l.self)) l.self.pairs.now l.k
