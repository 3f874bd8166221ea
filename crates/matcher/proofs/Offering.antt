-- An answer's offers, one after the other.
use Rattle.std.proofs.Common.{◌≡◌, ℕ, zero, suc, ◌<◌, Bool, true, false, cond, List, [], ◌∷◌, length, drop, Some, None, Option, sym, refl, ap, ◌∙◌, subst, arith}
use Rattle.std.specs.List.{slice_get}
use Rattle.store.proofs.Decided.{some_not_none, same_some}
use Rattle.request.specs.declared.kinds.Pair.{Pair}
use Rattle.host.specs.Reading.{is_the}
use Rattle.rewrite.specs.declared.offered.Offered.{Offered}
use Rattle.rewrite.specs.Meaning.{Offers, counted, offer_at}
use Rattle.matcher.specs.Machine.{pair_hit, owned_in, IsFirstOf}
use Rattle.matcher.specs.Search.{hit, behind, else_do, ends, try_offers, by_offers, if_owned}
use Rattle.matcher.specs.Trees.{View}

pub drop_nth : {X : Type 0} (xs : List X) (i : ℕ) (x : X) → slice_get xs i ≡ Some x → drop i xs ≡ x ∷ drop (suc i) xs
drop_nth [] i x e = absurd (some_not_none None x refl e)
drop_nth (y ∷ xs) zero x e = ap (λ z. z ∷ xs) (same_some _ y x refl e)
drop_nth (y ∷ xs) (suc i) x e = drop_nth xs i x e

pub drop_none : {X : Type 0} (xs : List X) (i : ℕ) → slice_get xs i ≡ None → drop i xs ≡ []
drop_none [] zero e = refl
drop_none [] (suc i) e = refl
drop_none (y ∷ xs) zero e = absurd (some_not_none _ y (sym e) refl)
drop_none (y ∷ xs) (suc i) e = drop_none xs i e

abbrev pub led : ℕ → Option ℕ → Option Pair
led n None = None
led n (Some m) = Some (ends n m)

module _ (V : View) (t n st : ℕ) where
  abbrev Owned : List ℕ → ℕ → Option ℕ
  Owned ms i = owned_in V t (slice_get ms i)

  -- the first offer is passed over, or taken
  passed : (m : ℕ) (ms : List ℕ) → owned_in V t (Some m) ≡ None → try_offers (if_owned V t) n (m ∷ ms) st ≡ try_offers (if_owned V t) n ms st
  passed m ms e = go (is_the (V.owner m) t) e
    where
      go : (q : Bool) → cond q (Some m) None ≡ None → else_do (behind (ends n m ∷ []) (cond q (Some (hit [] st)) None)) (try_offers (if_owned V t) n ms st) ≡ try_offers (if_owned V t) n ms st
      go true e = absurd (some_not_none (Some m) m (sym e) refl)
      go false e = refl

  taken : (m k : ℕ) (ms : List ℕ) → owned_in V t (Some m) ≡ Some k → Some (hit (ends n k ∷ []) st) ≡ try_offers (if_owned V t) n (m ∷ ms) st
  taken m k ms e = go (is_the (V.owner m) t) e
    where
      go : (q : Bool) → cond q (Some m) None ≡ Some k → Some (hit (ends n k ∷ []) st) ≡ else_do (behind (ends n m ∷ []) (cond q (Some (hit [] st)) None)) (try_offers (if_owned V t) n ms st)
      go true e = ap (λ x. Some (hit (ends n x ∷ []) st)) (sym (same_some _ m k refl e))
      go false e = absurd (some_not_none None k refl e)

  none_tried : (ms : List ℕ) → ((i : ℕ) → i < length ms → Owned ms i ≡ None) → None ≡ try_offers (if_owned V t) n ms st
  none_tried [] h = refl
  none_tried (m ∷ ms) h = none_tried ms (λ i l. h (suc i) (omega arith)) ∙ sym (passed m ms (h 0 (omega arith)))

  one_tried : (ms : List ℕ) (k i : ℕ) → Owned ms i ≡ Some k → ((j : ℕ) → j < i → Owned ms j ≡ None) → Some (hit (ends n k ∷ []) st) ≡ try_offers (if_owned V t) n ms st
  one_tried [] k zero e h = absurd (some_not_none None k refl e)
  one_tried [] k (suc i) e h = absurd (some_not_none None k refl e)
  one_tried (m ∷ ms) k zero e h = taken m k ms e
  one_tried (m ∷ ms) k (suc i) e h = one_tried ms k i e (λ j l. h (suc j) (omega arith)) ∙ sym (passed m ms (h 0 (omega arith)))

  tried : (ms : List ℕ) (r : Option ℕ) → IsFirstOf (Owned ms) (length ms) r → pair_hit (led n r) st ≡ try_offers (if_owned V t) n ms st
  tried ms None h = none_tried ms h
  tried ms (Some k) h = one_tried ms k h.0 h.2 h.3

-- the first offer that the term owns is what it is led to by
pub first_leads : (V : View) (t st : ℕ) (a : Option Offers) (o : Offered) (r : Option ℕ) → Some o ≡ counted a → IsFirstOf (λ i. owned_in V t (offer_at a i)) o.count r → pair_hit (led o.from r) st ≡ by_offers (if_owned V t) a st
first_leads V t st None o r e h = absurd (some_not_none None o refl (sym e))
first_leads V t st (Some x) o r e h = go o (same_some _ _ o refl (sym e)) h
  where
    go : (o : Offered) → record { from = x.from; count = length x.tos } ≡ o → IsFirstOf (λ i. owned_in V t (slice_get x.tos i)) o.count r → pair_hit (led o.from r) st ≡ try_offers (if_owned V t) x.from x.tos st
    go o e h = ap (λ z. pair_hit (led z r) st) (sym (ap (λ (y : Offered). y.from) e)) ∙ tried V t x.from st x.tos r (subst (λ z. IsFirstOf (λ i. owned_in V t (slice_get x.tos i)) z r) (sym (ap (λ (y : Offered). y.count) e)) h)
