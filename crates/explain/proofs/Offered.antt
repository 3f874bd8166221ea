-- An answer is known by its offers, taken by number.
use Rattle.std.proofs.Common.{◌≡◌, ℕ, suc, ◌+◌, List, [], ◌∷◌, length, Some, None, Option, sym, refl, ap, ◌∙◌, arith}
use Rattle.std.proofs.lemmas.Option.{none-some, same_Some}
use Rattle.std.specs.List.{slice_get, filter_map, cons_option, range_with_len}
use Rattle.explain.specs.Offering.{first_of}
use Rattle.rewrite.specs.Meaning.{Offers, counted, offer_at}
use Rattle.rewrite.specs.declared.offered.Offered.{Offered}

taken : (xs : List ℕ) (offer : ℕ → Option ℕ) (from : ℕ) → ((i : ℕ) → offer (from + i) ≡ slice_get xs i) → filter_map offer (range_with_len from (length xs)) ≡ xs
taken [] offer from h = refl
taken (x ∷ xs) offer from h =
    let first : from ≡ from + 0 = omega arith in
    let later : (i : ℕ) → from + 1 + i ≡ from + suc i = λ i. omega arith in
    let rest = taken xs offer (from + 1) (λ i. ap offer (later i) ∙ h (suc i)) in
    ap (λ o. cons_option o (filter_map offer (range_with_len (from + 1) (length xs)))) (ap offer first ∙ h 0) ∙ ap (λ l. x ∷ l) rest

-- the answer whose offers are all taken
pub all_offered : (o : Option Offers) (a : Offered) (tos : List ℕ) → Some a ≡ counted o → tos ≡ first_of o a.count → Some (record { from = a.from; tos = tos }) ≡ o
all_offered None a tos e t = absurd (none-some a (sym e))
all_offered (Some o) a tos e t =
    let same = same_Some _ a (sym e) in
    let back = sym same in
    let none_before : (i : ℕ) → 0 + i ≡ i = λ i. omega arith in
    let full = t ∙ ap (λ x. first_of (Some o) x.count) back ∙ taken o.tos (offer_at (Some o)) 0 (λ i. ap (slice_get o.tos) (none_before i)) in
    λ k. Some (record { from = (back k).from; tos = full k })
