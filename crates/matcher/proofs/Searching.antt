-- From a fresh matcher to what the search finds.
use Rattle.std.proofs.Common.{◌≡◌, ℕ, Bool, true, false, cond, List, [], reverse, Some, None, sym, refl, ap, ◌∙◌, subst, arith}
use mathlib.Core.Path.{transport}
use Rattle.std.proofs.lemmas.Bool.{true≢false}
use Rattle.request.specs.Asked.{Asked}
use Rattle.host.specs.Meaning.{HostMeaning}
use Rattle.rewrite.specs.Meaning.{RewriterMeaning}
use Rattle.matcher.specs.declared.level.Mode.{Mode}
use Rattle.matcher.specs.declared.level.Mode.TheVariants.{Down, Hit, Miss}
use Rattle.matcher.specs.declared.machine.PatternMatcher.{PatternMatcher}
use Rattle.matcher.specs.Machine.{left, Finite, ModeSound, Stacked}
use Rattle.matcher.specs.Running.{Run}
use Rattle.matcher.specs.Search.{Asking, asking, seek, if_finished}
use Rattle.matcher.specs.Stepping.{stack, MachineSound, machine_left, Starts, Searched, stopped_with, ends_in, success}
use Rattle.matcher.specs.Trees.{part, view}
use Rattle.matcher.proofs.Depth.{size_is}
use Rattle.matcher.proofs.Running.{runs_alike}

module _ (R : Asked) (M : PatternMatcher) (b s : ℕ) (new : Starts b s M) where
  empty : stack M ≡ []
  empty = ap reverse new.levels

  pub start_sound : (ρ : RewriterMeaning) (A : Asking) (st : ℕ) → Finite R s → ρ.known st ≡ true → MachineSound R ρ A M st
  start_sound ρ A st fin known =
      let sized = size_is R 64 fin.1 fin.2 in
      record {
        levels = subst (Stacked R ρ A) (sym empty) tt;
        here = transport (λ i. ModeSound R ρ (sym empty i) (sym new.pairs i) st (sym new.mode i)) (fin, omega (arith, sized, fin.2), omega (arith, sized, fin.2), known);
      }

  start_answer : (A : Asking) (st : ℕ) → (machine_left R A M st).answer ≡ seek (view R.store) A (part R s) b st
  start_answer A st = ap (λ (r : Run). r.answer) (λ i. left R A (empty i) (new.pairs i) (new.mode i) st) ∙ runs_alike (view R.store) A (part R s) b st

  -- ρ is the rewriter's meaning before the reset, after it, and after the run
  module _ (ρ ρ₁ ρ₂ : RewriterMeaning) (m : HostMeaning) (ns : List ℕ) (M' : PatternMatcher) (st st' : ℕ) (fin : Finite R s) (first : st ≡ ρ.first) (was : ρ₁ ≡ ρ) (kept : ρ₂ ≡ ρ₁) (ended : (machine_left R (asking ρ₁ m ns) M st).answer ≡ stopped_with M'.mode M'.pairs st') where
    ends : (machine_left R (asking ρ m ns) M st).answer ≡ stopped_with M'.mode M'.pairs st'
    ends = subst (λ r. (machine_left R (asking r m ns) M st).answer ≡ stopped_with M'.mode M'.pairs st') was ended

    finished_as : ρ.finished st' ≡ ρ₂.finished st'
    finished_as = ap (λ (r : RewriterMeaning). r.finished st') (sym (kept ∙ was))

    sought : seek (view R.store) (asking ρ m ns) (part R s) b ρ.first ≡ stopped_with M'.mode M'.pairs st'
    sought = ap (λ x. seek (view R.store) (asking ρ m ns) (part R s) b x) (sym first) ∙ sym (start_answer (asking ρ m ns) st) ∙ ends

    found_if : (x : Mode) (q : Bool) → ρ.finished st' ≡ q → success x q ≡ true → (if_finished ρ (stopped_with x M'.pairs st') ≡ Some M'.pairs) × (ends_in ρ (stopped_with x M'.pairs st') ≡ st')
    found_if (Down c t) q e f = absurd (true≢false (sym f))
    found_if Hit q e f = (ap (λ q. cond q (Some M'.pairs) None) (e ∙ f), ap (λ q. cond q st' ρ.first) (e ∙ f))
    found_if Miss q e f = absurd (true≢false (sym f))

    pub found_at : success M'.mode (ρ₂.finished st') ≡ true → Searched R ρ m ns b s (Some M'.pairs) st'
    found_at done = let some = found_if M'.mode (ρ₂.finished st') finished_as done in record {
      finds = λ _. sym (ap (if_finished ρ) sought ∙ some.0);
      leaves = λ _. sym (ap (ends_in ρ) sought ∙ some.1);
      too_large = λ big. absurd (big fin);
    }

    none_if : (x : Mode) (q : Bool) → ρ.finished st' ≡ q → success x q ≡ false → (if_finished ρ (stopped_with x M'.pairs st') ≡ None) × (ends_in ρ (stopped_with x M'.pairs st') ≡ ρ.first)
    none_if (Down c t) q e f = (refl, refl)
    none_if Hit q e f = (ap (λ q. cond q (Some M'.pairs) None) (e ∙ f), ap (λ q. cond q st' ρ.first) (e ∙ f))
    none_if Miss q e f = (refl, refl)

    pub missed_at : (st'' : ℕ) → success M'.mode (ρ₂.finished st') ≡ false → st'' ≡ ρ₂.first → Searched R ρ m ns b s None st''
    missed_at st'' done back = let none = none_if M'.mode (ρ₂.finished st') finished_as done in record {
      finds = λ _. sym (ap (if_finished ρ) sought ∙ none.0);
      leaves = λ _. back ∙ ap (λ (r : RewriterMeaning). r.first) (kept ∙ was) ∙ sym (ap (ends_in ρ) sought ∙ none.1);
      too_large = λ big. absurd (big fin);
    }
