-- In a store that keeps its rules, a term is recorded as unknown exactly if it holds a quantifier.
use Rattle.std.proofs.Common.{◌≡◌, ℕ, zero, suc, ◌+◌, ◌<◌, Bool, true, false, cond, leb, List, [], ◌∷◌, map, length, get_or, take, drop, Some, None, unwrap_or, sym, refl, ap, ◌∙◌, subst, ⊎_elim, arith}
use Rattle.std.specs.List.{Contains, list_any}
use Rattle.std.proofs.lemmas.Bool.{or_cases, or_left, or_right, true≢false}
use Rattle.store.specs.declared.term.HasVar.{HasVar}
use Rattle.store.specs.declared.term.HasVar.TheVariants.{No, Yes, Unknown}
use Rattle.store.specs.declared.term.Term.{Term}
use Rattle.store.specs.declared.term.TermKind.{TermKind}
use Rattle.store.specs.declared.term.TermKind.TheVariants.{Var, App, Quant}
use Rattle.store.specs.Rules.{StoreRules}
use Rattle.store.specs.Tables.{Tables, term_at, kids, recorded, record_or}
use Rattle.store.specs.Terms.{is_unknown, is_yes, follows, Childless}
use Rattle.store.proofs.Decided.{nth_there}
use Rattle.request.specs.Grounds.{Quantified, itself, below}

-- some child passes the test, and which
pub some_has : {X Y : Type 0} (p : Y → Bool) (f : X → Y) (xs : List X) → list_any p (map f xs) ≡ true → (x : X) × Contains xs x × (p (f x) ≡ true)
some_has p f [] e = absurd (true≢false (sym e))
some_has p f (x ∷ xs) e = ⊎_elim
    (λ here. (x, (zero, omega arith, refl), here))
    (λ later. let r = some_has p f xs later in (r.0, (suc r.1.0, omega (arith, r.1.1), r.1.2), r.2))
    (or_cases (p (f x)) (list_any p (map f xs)) e)

pub has_some : {X Y : Type 0} (p : Y → Bool) (f : X → Y) (xs : List X) (k : ℕ) (x : X) → k < length xs → get_or xs k x ≡ x → p (f x) ≡ true → list_any p (map f xs) ≡ true
has_some p f [] k x h at e = absurd (omega arith)
has_some p f (y ∷ xs) zero x h at e = or_left (p (f y)) (list_any p (map f xs)) (ap (λ z. p (f z)) at ∙ e)
has_some p f (y ∷ xs) (suc k) x h at e = or_right (p (f y)) (list_any p (map f xs)) (has_some p f xs k x (omega arith) at e)

is_unknown_true : (m : HasVar) → is_unknown m ≡ true → m ≡ Unknown
is_unknown_true No e = absurd (true≢false (sym e))
is_unknown_true Yes e = absurd (true≢false (sym e))
is_unknown_true Unknown e = refl

-- an application recorded as unknown has a child that is
of_unknown : (a b : Bool) → cond a Unknown (cond b Yes No) ≡ Unknown → a ≡ true
of_unknown true b e = refl
of_unknown false true e = absurd (true≢false (ap is_unknown (sym e)))
of_unknown false false e = absurd (true≢false (ap is_unknown (sym e)))

of_known : (a b : Bool) → a ≡ true → cond a Unknown (cond b Yes No) ≡ Unknown
of_known true b e = refl
of_known false b e = absurd (true≢false (sym e))

no_cells : (b : Bool) (xs : List ℕ) (n : ℕ) → n ≡ 0 → unwrap_or (cond b (Some (take n xs)) None) [] ≡ []
no_cells true xs n e = ap (λ m. take m xs) e
no_cells false xs n e = refl

module _ (S : Tables) (ruled : StoreRules S) where
  recorded_is : (t : ℕ) (x : Term) → term_at S t ≡ Some x → recorded S t ≡ follows x.kind (map (recorded S) (kids S x))
  recorded_is t x e = ap (record_or Unknown) e ∙ (ruled.terms_ruled t x e).has_var_follows

  from_child : (k : TermKind) (x : Term) (c : ℕ) → x.kind ≡ k → Childless k x.child_ids.len → Contains (kids S x) c → recorded S c ≡ Unknown → follows k (map (recorded S) (kids S x)) ≡ Unknown
  from_child (Var v) x c e less has u = absurd (let none = ap length (no_cells (leb (x.child_ids.offset + x.child_ids.len) (length S.cells)) (drop x.child_ids.offset S.cells) x.child_ids.len less) in omega (arith, has.1))
  from_child (App f) x c e less has u = of_known (list_any is_unknown (map (recorded S) (kids S x))) (list_any is_yes (map (recorded S) (kids S x))) (has_some is_unknown (recorded S) (kids S x) has.0 c has.1 has.2 (ap is_unknown u))
  from_child (Quant q) x c e less has u = refl

  pub quantified_unknown : {t : ℕ} → Quantified S t → recorded S t ≡ Unknown
  quantified_unknown {t} (itself x q e k) = recorded_is t x e ∙ ap (λ h. follows h (map (recorded S) (kids S x))) k
  quantified_unknown {t} (below x c e has q) = recorded_is t x e ∙ from_child x.kind x c refl (ruled.terms_ruled t x e).variable_childless has (quantified_unknown q)

  -- what the record of an application or a quantifier rests on, given its children's
  by_kind : (t : ℕ) (x : Term) (k : TermKind) → t < length S.terms → term_at S t ≡ Some x → x.kind ≡ k → follows k (map (recorded S) (kids S x)) ≡ Unknown → ((c : ℕ) → c < t → c < length S.terms → recorded S c ≡ Unknown → Quantified S c) → Quantified S t
  by_kind t x (Var v) l e f u lower = absurd (true≢false (ap is_unknown (sym u)))
  by_kind t x (Quant q) l e f u lower = itself x q e f
  by_kind t x (App g) l e f u lower =
      let got = some_has is_unknown (recorded S) (kids S x) (of_unknown (list_any is_unknown (map (recorded S) (kids S x))) (list_any is_yes (map (recorded S) (kids S x))) u) in
      let less = subst (λ c. c < t) got.1.2 ((ruled.terms_ruled t x e).children_below got.1.0 got.0 got.1.1) in
      below x got.0 e got.1 (lower got.0 less (omega arith) (is_unknown_true (recorded S got.0) got.2))

  find_it : (n t : ℕ) → t < n → t < length S.terms → recorded S t ≡ Unknown → Quantified S t
  find_it zero t h l u = absurd (omega arith)
  find_it (suc n) t h l u =
      let got = nth_there S.terms t l in
      by_kind t got.0 got.0.kind l got.1 refl (sym (recorded_is t got.0 got.1) ∙ u) (λ c less m v. find_it n c (omega arith) m v)

  pub unknown_quantified : (t : ℕ) → t < length S.terms → recorded S t ≡ Unknown → Quantified S t
  unknown_quantified t l u = find_it (suc t) t (omega arith) l u
