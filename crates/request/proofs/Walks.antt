-- Places listed in preorder: there is one such list, and it is made child by child.
use Rattle.std.proofs.Common.{◌≡◌, ℕ, ◌+◌, ◌<◌, ◌≤◌, List, [], ◌∷◌, ◌++◌, length, get_or, take, drop, sym, refl, ap, ◌∙◌, subst, ap₂, append_assoc, append-nil, arith, length-append, take-append-drop}
use Rattle.std.proofs.lemmas.List.{drop_more, take_more, take_all}
use Rattle.store.specs.Tables.{Tables}
use Rattle.request.specs.Places.{Preorder, Preorders, place, none, more, opened}

pub longer : (old pushed now us : List ℕ) (t : ℕ) → pushed ≡ old ++ t ∷ [] → now ≡ pushed ++ us → length old < length now
longer old pushed now us t e f = omega (arith, ap length e ∙ length-append old (t ∷ []), ap length f ∙ length-append pushed us)

pub snoc : {S : Tables} {cs us ts : List ℕ} {c : ℕ} → Preorders S cs us → Preorder S c ts → Preorders S (cs ++ c ∷ []) (us ++ ts)
snoc {S} {ts = ts} {c = c} none p = subst (Preorders S (c ∷ [])) (append-nil ts) (more p none)
snoc {S} {ts = ts} {c = c} (more {c = d} {cs = ds} {ts = a} {us = b} q r) p = subst (Preorders S (d ∷ (ds ++ c ∷ []))) (sym (append_assoc a b ts)) (more q (snoc r p))

mutual
  pub unique : {S : Tables} {t : ℕ} {ts us : List ℕ} → Preorder S t ts → Preorder S t us → ts ≡ us
  unique {t = t} (place p) (place q) = ap (λ l. t ∷ l) (uniques p q)

  pub uniques : {S : Tables} {cs ts us : List ℕ} → Preorders S cs ts → Preorders S cs us → ts ≡ us
  uniques none none = refl
  uniques (more p r) (more q s) = ap₂ ◌++◌ (unique p q) (uniques r s)

record Split (S : Tables) (xs : List ℕ) (c : ℕ) (all : List ℕ) : Type 0 where
  before : List ℕ
  here : List ℕ
  after : List ℕ
  front : Preorders S xs before
  at : Preorder S c here
  whole : all ≡ before ++ (here ++ after)

split : {S : Tables} (xs : List ℕ) (c : ℕ) (ys : List ℕ) {all : List ℕ} → Preorders S (xs ++ c ∷ ys) all → Split S xs c all
split [] c ys (more {ts = a} {us = b} p r) = record { before = []; here = a; after = b; front = none; at = p; whole = refl }
split (x ∷ xs) c ys (more {ts = a} q r) =
    let s = split xs c ys r in
    record { before = a ++ s.before; here = s.here; after = s.after; front = more q s.front; at = s.at; whole = ap (λ l. a ++ l) s.whole ∙ sym (append_assoc a s.before (s.here ++ s.after)) }

cut_at : (xs : List ℕ) (i : ℕ) → i < length xs → xs ≡ take i xs ++ get_or xs i 0 ∷ drop (i + 1) xs
cut_at xs i h = sym (take-append-drop i xs) ∙ ap (λ l. take i xs ++ l) (drop_more xs i 0 h)

module _ (S : Tables) (t : ℕ) (xs old pushed : List ℕ) (kids : xs ≡ opened S t) (push : pushed ≡ old ++ t ∷ []) where
  -- a child that does not fit behind its elder ones leaves no room for the whole
  pub too_many : (i : ℕ) (now us : List ℕ) → i < length xs → Preorders S (take i xs) us → now ≡ pushed ++ us → ((ts : List ℕ) → Preorder S (get_or xs i 0) ts → 64 < length now + length ts) → (ts : List ℕ) → Preorder S t ts → 64 < length old + length ts
  too_many i now us h front e over ts p = go p
    where
      go : {ts : List ℕ} → Preorder S t ts → 64 < length old + length ts
      go (place {ts = all} q) =
          let s = split (take i xs) (get_or xs i 0) (drop (i + 1) xs) (subst (λ l. Preorders S l all) (sym kids ∙ cut_at xs i h) q) in
          let same = ap length (uniques front s.front) in
          let l₁ = ap length push ∙ length-append old (t ∷ []) in
          let l₂ = ap length e ∙ length-append pushed us in
          let l₃ = ap length s.whole ∙ length-append s.before (s.here ++ s.after) in
          let l₄ = length-append s.here s.after in
          let fails = over s.here s.at in
          omega arith

  pub listed_all : (i : ℕ) (now us : List ℕ) → length xs ≤ i → Preorders S (take i xs) us → now ≡ pushed ++ us → (ts : List ℕ) × Preorder S t ts × (now ≡ old ++ ts)
  listed_all i now us h front e = (
    t ∷ us,
    place (subst (λ l. Preorders S l us) (take_all i xs h ∙ kids) front),
    e ∙ ap (λ l. l ++ us) push ∙ append_assoc old (t ∷ []) us,
  )

pub one_more : {S : Tables} (xs pushed now next us ts : List ℕ) (i : ℕ) → i < length xs → Preorders S (take i xs) us → now ≡ pushed ++ us → Preorder S (get_or xs i 0) ts → next ≡ now ++ ts → (vs : List ℕ) × Preorders S (take (i + 1) xs) vs × (next ≡ pushed ++ vs)
one_more {S} xs pushed now next us ts i h front e p f = (
  us ++ ts,
  subst (λ l. Preorders S l (us ++ ts)) (sym (take_more xs i 0 h)) (snoc front p),
  f ∙ ap (λ l. l ++ ts) e ∙ append_assoc pushed us ts,
)
