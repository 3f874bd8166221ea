-- Following links that lead lower: the root does not hang on how many steps are allowed.
use Rattle.std.proofs.Common.{◌≡◌, ℕ, zero, suc, ◌<◌, ◌≤◌, ltb, ◌⊎◌, List, Some, None, Option, sym, refl, ap, ◌∙◌, inl, inr, ⊎_elim, arith}
use Rattle.std.specs.List.{slice_get}
use Rattle.std.proofs.lemmas.Bool.{cases_lt, lt-ltb, le-ltb, cond-true, cond-false}
use Rattle.host.specs.Reading.{link_at, root_in, root}

pub link_low : (n : ℕ) (o : Option ℕ) → (link_at n o ≡ n) ⊎ (link_at n o < n)
link_low n None = inl refl
link_low n (Some l) = ⊎_elim
    (λ h. let e = cond-true (ltb l n) l n (lt-ltb l n h) in inr (omega arith))
    (λ h. inl (cond-false (ltb l n) l n (le-ltb l n h)))
    (cases_lt l n)

module _ (links : List ℕ) where
  pub stays : (k n : ℕ) → link_at n (slice_get links n) ≡ n → root_in links k n ≡ n
  stays zero n e = refl
  stays (suc k) n e = ap (root_in links k) e ∙ stays k n e

  -- one step lower on both sides
  lower : (i j n : ℕ) → n ≤ i → n ≤ j → link_at n (slice_get links n) < n → ((i j : ℕ) → link_at n (slice_get links n) ≤ i → link_at n (slice_get links n) ≤ j → root_in links i (link_at n (slice_get links n)) ≡ root_in links j (link_at n (slice_get links n))) → root_in links i n ≡ root_in links j n
  lower zero j n p q l next = absurd (omega arith)
  lower (suc i) zero n p q l next = absurd (omega arith)
  lower (suc i) (suc j) n p q l next = next i j (omega arith) (omega arith)

  enough : (k i j n : ℕ) → n ≤ k → n ≤ i → n ≤ j → root_in links i n ≡ root_in links j n
  enough zero i j n h p q = ⊎_elim (λ e. stays i n e ∙ sym (stays j n e)) (λ l. absurd (omega arith)) (link_low n (slice_get links n))
  enough (suc k) i j n h p q = ⊎_elim (λ e. stays i n e ∙ sym (stays j n e)) (λ l. lower i j n p q l (λ i' j' a b. enough k i' j' (link_at n (slice_get links n)) (omega arith) a b)) (link_low n (slice_get links n))

  pub root_next : (n : ℕ) → link_at n (slice_get links n) < n → root links n ≡ root links (link_at n (slice_get links n))
  root_next zero l = absurd (omega arith)
  root_next (suc n) l = enough n n (link_at (suc n) (slice_get links (suc n))) (link_at (suc n) (slice_get links (suc n))) (omega arith) (omega arith) (omega arith)

  pub root_end : (n : ℕ) → n ≤ link_at n (slice_get links n) → root links n ≡ n
  root_end n h = ⊎_elim (stays n n) (λ l. absurd (omega arith)) (link_low n (slice_get links n))
