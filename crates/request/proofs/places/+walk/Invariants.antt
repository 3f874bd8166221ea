use Rattle.std.proofs.Common.{◌≡◌, ℕ, ◌-◌, ◌≤◌, List, ◌++◌, length, take}
use Rattle.store.specs.Tables.{tables}
use Rattle.request.specs.Places.{Preorders}
use Rattle.request.proofs.places.+walk.Given as goal

abbrev pub invariant-loop-c : goal.invariant-loop-c
invariant-loop-c l = (us : List ℕ) × Preorders (tables l.store) (take l.c-index l.c-items) us × (l.out ≡ l.initial.out ++ us) × (length l.out ≤ 64)

abbrev pub decreases-walk : goal.decreases-walk
decreases-walk l = 64 - length l.out.now
