use Rattle.std.proofs.Common.{◌≡◌, [], ◌∷◌, take}
use Rattle.std.specs.List.{fold}
use Rattle.store.specs.declared.term.HasVar.TheVariants.{No}
use Rattle.store.specs.Tables.{tables, recorded_or}
use Rattle.store.specs.Terms.{of_children}
use Rattle.store.proofs.store.Store.of_children.Given as goal

abbrev pub invariant-loop-c : goal.invariant-loop-c
invariant-loop-c l = l.found ≡ fold (λ h k. of_children (h ∷ recorded_or l.missing (tables l.self) k ∷ [])) No (take l.c-index l.kids)
