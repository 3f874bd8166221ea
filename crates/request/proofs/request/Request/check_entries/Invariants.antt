use Rattle.store.proofs.Decided.{Below}
use Rattle.request.specs.Asked.{asked}
use Rattle.request.specs.Grounds.{EntryRules}
use Rattle.request.proofs.request.Request.check_entries.Given as goal

abbrev pub invariant-loop-j : goal.invariant-loop-j
invariant-loop-j l = Below (λ _ e. EntryRules (asked l.self) e) l.self.entries.now l.j
