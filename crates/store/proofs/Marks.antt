-- What is recorded of an application, child by child: what was found so far counts as one more child.
use Rattle.std.proofs.Common.{◌≡◌, List, [], ◌∷◌, map, refl, ◌∙◌}
use Rattle.std.specs.List.{fold}
use Rattle.store.specs.declared.term.HasVar.{HasVar}
use Rattle.store.specs.declared.term.HasVar.TheVariants.{No, Yes, Unknown}
use Rattle.store.specs.Terms.{of_children}

alone : (m : HasVar) → m ≡ of_children (m ∷ [])
alone No = refl
alone Yes = refl
alone Unknown = refl

pub meets_unknown : (m : HasVar) (ms : List HasVar) → of_children (m ∷ Unknown ∷ ms) ≡ Unknown
meets_unknown No ms = refl
meets_unknown Yes ms = refl
meets_unknown Unknown ms = refl

together : (m r : HasVar) (ms : List HasVar) → of_children (of_children (m ∷ r ∷ []) ∷ ms) ≡ of_children (m ∷ r ∷ ms)
together No No ms = refl
together No Yes ms = refl
together No Unknown ms = refl
together Yes No ms = refl
together Yes Yes ms = refl
together Yes Unknown ms = refl
together Unknown No ms = refl
together Unknown Yes ms = refl
together Unknown Unknown ms = refl

pub folded : {X : Type 0} (f : X → HasVar) (m : HasVar) (xs : List X) → fold (λ h x. of_children (h ∷ f x ∷ [])) m xs ≡ of_children (m ∷ map f xs)
folded f m [] = alone m
folded f m (x ∷ xs) = folded f (of_children (m ∷ f x ∷ [])) xs ∙ together m (f x) (map f xs)
