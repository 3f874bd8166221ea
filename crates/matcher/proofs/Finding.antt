-- The first of so many numbers at which a closure gives something.
use Rattle.std.proofs.Common.{◌≡◌, ℕ, ◌+◌, ◌<◌, true, Some, None, Option, sym, refl, ◌∙◌, ap, subst, zero-add, arith}
use Rattle.std.specs.Option.{MatchOption, IsSomeAnd, IfSome, option_map}
use Rattle.std.specs.Iterator.Runs.{Run, ItemsCountUp, AllItemsGive, IsFirstToGive, CallKeepsClosure}
use Rattle.std.specs.Fn.{Called}
use denote.Param.Members.{Mut}
use Rattle.std.proofs.iter.Yields.{nat_range_steps}
use Rattle.store.proofs.Decided.{some_not_none}
use Rattle.matcher.specs.Machine.{IsFirstOf}

module _ {F : Type 0} (g : Mut F (ℕ × Unit {0}) (Option ℕ)) (f : F) (h : ℕ → Option ℕ) (n : ℕ) (p : Run nat_range_steps) (up : ItemsCountUp p 0 n) (keeps : CallKeepsClosure g f) (gives : (x : ℕ) (o : Option ℕ) → Called g f (x, tt) o f → o ≡ h x) where
  at_place : (k : ℕ) → k < p.len → p.at k ≡ Some k
  at_place k l = as_is (p.at k) (up.3 k l ∙ ap Some (zero-add k))
    where
      as_is : (o : Option ℕ) → option_map (λ y. y) o ≡ Some k → o ≡ Some k
      as_is None e = absurd (some_not_none None k refl e)
      as_is (Some x) e = e

  pub first_given : (r : Option ℕ) → MatchOption r ((p.whole ≡ true) × AllItemsGive p g f None) (λ y. (i : ℕ) × (i < p.len) × (p.len ≡ i + 1) × IsFirstToGive p g f (Some y) None i) → IsFirstOf h n r
  first_given None d = λ k l. sym (gives k None (subst (λ o. IfSome o (λ x. Called g f (x, tt) None f)) (at_place k (omega (arith, up.1 d.0))) (d.1 keeps k)))
  first_given (Some y) d = let first = d.3 keeps in (
    d.0,
    omega (arith, up.0, d.1),
    sym (gives d.0 (Some y) (subst (λ o. IsSomeAnd o (λ x. Called g f (x, tt) (Some y) f)) (at_place d.0 d.1) first.0)),
    λ k l. sym (gives k None (subst (λ o. IsSomeAnd o (λ x. Called g f (x, tt) None f)) (at_place k (omega (arith, l, d.1))) (first.1 k l))),
  )
