-- By a steady rewriter, the search gives the pairs of the first derivation, and misses exactly if there is none.
use Rattle.std.proofs.Common.{◌≡◌, ℕ, suc, Bool, true, false, cond, eqb, ◌⊎◌, List, [], ◌∷◌, ◌++◌, Some, None, Option, sym, refl, ap, ◌∙◌, subst, ap₂, subst₂, inl, inr, ⊎_elim, arith}
use Rattle.std.proofs.lemmas.Bool.{eqb-true, eqb-false, eq-eqb, true≢false}
use Rattle.store.proofs.Decided.{some_not_none, same_some}
use Rattle.host.specs.Kept.{the_owner}
use Rattle.host.specs.Reading.{is_the}
use Rattle.request.specs.declared.kinds.Pair.{Pair}
use Rattle.rewrite.specs.Meaning.{Offers}
use Rattle.matcher.specs.Derivations.{Nth, Offered, Derives, DerivesAll, Earlier, First}
use Rattle.matcher.specs.Derivations.Nth.{first, later}
use Rattle.matcher.specs.Search.{Asking, Hit, hit, behind, follow, else_do, ends, try_offers, by_offers, if_owned, if_fits, exact, to_bound, at_app, seek, seek_all}
use Rattle.matcher.specs.Trees.{Pat, Pats, hole, ground, app, end, more, View}

-- the first, from a search that leaves the rewriter in state st
abbrev pub FirstAt : ℕ → (List ℕ → List Pair → Type 0) → Option Hit → Type 0
FirstAt st D None = First D None
FirstAt st D (Some h) = (h.state ≡ st) × First D (Some h.pairs)

-- what is derived may be said in another way
convert : (st : ℕ) (D E : List ℕ → List Pair → Type 0) (r : Option Hit) → ((cs : List ℕ) (xs : List Pair) → D cs xs → E cs xs) → ((cs : List ℕ) (xs : List Pair) → E cs xs → D cs xs) → FirstAt st D r → FirstAt st E r
convert st D E None f g h = λ cs xs e. h cs xs (g cs xs e)
convert st D E (Some x) f g h = (h.0, (h.1.0, f _ _ h.1.1, λ ds ys e. h.1.2 ds ys (g ds ys e)))

earlier_front : {cs ds : List ℕ} (es fs : List ℕ) → Earlier cs ds → Earlier (cs ++ es) (ds ++ fs)
earlier_front es fs (Earlier.here h) = Earlier.here h
earlier_front es fs (Earlier.on e) = Earlier.on (earlier_front es fs e)

earlier_back : (cs : List ℕ) {ds es : List ℕ} → Earlier ds es → Earlier (cs ++ ds) (cs ++ es)
earlier_back [] e = e
earlier_back (c ∷ cs) e = Earlier.on (earlier_back cs e)

-- derivations by one of several offers: what each offer's node goes on with
data Tries (E : ℕ → List ℕ → List Pair → Type 0) (n : ℕ) : List ℕ → List ℕ → List Pair → Type 0 where
  by_first : {m : ℕ} {ms cs : List ℕ} {xs : List Pair} → E m cs xs → Tries E n (m ∷ ms) (0 ∷ cs) (ends n m ∷ xs)
  by_later : {m i : ℕ} {ms cs : List ℕ} {xs : List Pair} → Tries E n ms (i ∷ cs) xs → Tries E n (m ∷ ms) (suc i ∷ cs) xs

bump : List ℕ → List ℕ
bump [] = []
bump (i ∷ cs) = suc i ∷ cs

module _ (st n : ℕ) (E : ℕ → List ℕ → List Pair → Type 0) where
  raise : {m : ℕ} {ms cs : List ℕ} {xs : List Pair} → Tries E n ms cs xs → Tries E n (m ∷ ms) (bump cs) xs
  unfolding bump
  raise (by_first e) = by_later (by_first e)
  raise (by_later t) = by_later (by_later t)

  bump_earlier : {cs ds : List ℕ} → Earlier cs ds → Earlier (bump cs) (bump ds)
  unfolding bump
  bump_earlier (Earlier.here h) = Earlier.here (omega arith)
  bump_earlier (Earlier.on e) = Earlier.on e

  others_later : {m : ℕ} {ms cs : List ℕ} {xs : List Pair} → ((ds : List ℕ) (ys : List Pair) → E m ds ys → ⊥) → ((ds : List ℕ) (ys : List Pair) → Tries E n ms ds ys → ((cs ≡ ds) × (xs ≡ ys)) ⊎ Earlier cs ds) → {ds : List ℕ} {ys : List Pair} → Tries E n (m ∷ ms) ds ys → ((bump cs ≡ ds) × (xs ≡ ys)) ⊎ Earlier (bump cs) ds
  unfolding bump
  others_later no-first h (by_first e) = absurd (no-first _ _ e)
  others_later no-first h (by_later t) = ⊎_elim (λ same. inl (ap bump same.0, same.1)) (λ e. inr (bump_earlier e)) (h _ _ t)

  none_at_all : {m : ℕ} {ms : List ℕ} → ((ds : List ℕ) (ys : List Pair) → E m ds ys → ⊥) → ((ds : List ℕ) (ys : List Pair) → Tries E n ms ds ys → ⊥) → {ds : List ℕ} {ys : List Pair} → Tries E n (m ∷ ms) ds ys → ⊥
  none_at_all no-first no-later (by_first e) = no-first _ _ e
  none_at_all no-first no-later (by_later t) = no-later _ _ t

  others_first : {m : ℕ} {ms cs : List ℕ} {xs : List Pair} → ((ds : List ℕ) (ys : List Pair) → E m ds ys → ((cs ≡ ds) × (xs ≡ ys)) ⊎ Earlier cs ds) → {ds : List ℕ} {ys : List Pair} → Tries E n (m ∷ ms) ds ys → ((0 ∷ cs ≡ ds) × (ends n m ∷ xs ≡ ys)) ⊎ Earlier (0 ∷ cs) ds
  others_first {m} h (by_first e) = ⊎_elim (λ same. inl (ap (λ l. 0 ∷ l) same.0, ap (λ l. ends n m ∷ l) same.1)) (λ l. inr (Earlier.on l)) (h _ _ e)
  others_first h (by_later t) = inr (Earlier.here (omega arith))

  one_offer : (m : ℕ) (ms : List ℕ) (r s : Option Hit) → FirstAt st (E m) r → FirstAt st (Tries E n ms) s → FirstAt st (Tries E n (m ∷ ms)) (else_do (behind (ends n m ∷ []) r) s)
  one_offer m ms None None f g = λ cs xs t. none_at_all f g t
  one_offer m ms None (Some x) f g = (g.0, (bump g.1.0, raise g.1.1, λ ds ys t. others_later f g.1.2 t))
  one_offer m ms (Some x) s f g = (f.0, (0 ∷ f.1.0, by_first f.1.1, λ ds ys t. others_first f.1.2 t))

  no_tries : {ds : List ℕ} {ys : List Pair} → Tries E n [] ds ys → ⊥
  no_tries t = elim t [ ]

  tries_first : (sub : ℕ → ℕ → Option Hit) → ((m : ℕ) → FirstAt st (E m) (sub m st)) → (ms : List ℕ) → FirstAt st (Tries E n ms) (try_offers sub n ms st)
  tries_first sub h [] = λ cs xs t. no_tries t
  tries_first sub h (m ∷ ms) = one_offer m ms (sub m st) (try_offers sub n ms st) (h m) (tries_first sub h ms)

-- unrewritten or by an offer
data Either (P T : List ℕ → List Pair → Type 0) : List ℕ → List Pair → Type 0 where
  plain : {cs : List ℕ} {xs : List Pair} → P cs xs → Either P T (0 ∷ cs) xs
  offer : {i : ℕ} {cs : List ℕ} {xs : List Pair} → T (i ∷ cs) xs → Either P T (suc i ∷ cs) xs

module _ (st : ℕ) (P T : List ℕ → List Pair → Type 0) (up : (cs : List ℕ) (xs : List Pair) → T cs xs → Either P T (bump cs) xs) where
  neither : ((ds : List ℕ) (ys : List Pair) → P ds ys → ⊥) → ((ds : List ℕ) (ys : List Pair) → T ds ys → ⊥) → {ds : List ℕ} {ys : List Pair} → Either P T ds ys → ⊥
  neither f g (plain p) = f _ _ p
  neither f g (offer t) = g _ _ t

  others_offer : {cs : List ℕ} {xs : List Pair} → ((ds : List ℕ) (ys : List Pair) → P ds ys → ⊥) → ((ds : List ℕ) (ys : List Pair) → T ds ys → ((cs ≡ ds) × (xs ≡ ys)) ⊎ Earlier cs ds) → {ds : List ℕ} {ys : List Pair} → Either P T ds ys → ((bump cs ≡ ds) × (xs ≡ ys)) ⊎ Earlier (bump cs) ds
  unfolding bump
  others_offer f g (plain p) = absurd (f _ _ p)
  others_offer f g (offer t) = ⊎_elim (λ same. inl (ap bump same.0, same.1)) (λ e. inr (bump_earlier 0 0 (λ _ _ _. ⊥) e)) (g _ _ t)

  others_plain : {cs : List ℕ} {xs : List Pair} → ((ds : List ℕ) (ys : List Pair) → P ds ys → ((cs ≡ ds) × (xs ≡ ys)) ⊎ Earlier cs ds) → {ds : List ℕ} {ys : List Pair} → Either P T ds ys → ((0 ∷ cs ≡ ds) × (xs ≡ ys)) ⊎ Earlier (0 ∷ cs) ds
  others_plain f (plain p) = ⊎_elim (λ same. inl (ap (λ l. 0 ∷ l) same.0, same.1)) (λ l. inr (Earlier.on l)) (f _ _ p)
  others_plain f (offer t) = inr (Earlier.here (omega arith))

  either_first : (r s : Option Hit) → FirstAt st P r → FirstAt st T s → FirstAt st (Either P T) (else_do r s)
  either_first None None f g = λ cs xs e. neither f g e
  either_first None (Some x) f g = (g.0, (bump g.1.0, up _ _ g.1.1, λ ds ys e. others_offer f g.1.2 e))
  either_first (Some x) s f g = (f.0, (0 ∷ f.1.0, plain f.1.1, λ ds ys e. others_plain f.1.2 e))

up_tries : {P : List ℕ → List Pair → Type 0} {E : ℕ → List ℕ → List Pair → Type 0} {n : ℕ} {ms cs : List ℕ} {xs : List Pair} → Tries E n ms cs xs → Either P (Tries E n ms) (bump cs) xs
unfolding bump
up_tries (by_first e) = offer (by_first e)
up_tries (by_later t) = offer (by_later t)

-- an answer's offers, by number
to_tries : {E : ℕ → List ℕ → List Pair → Type 0} {n m i : ℕ} {ms cs : List ℕ} {xs : List Pair} → Nth i ms m → E m cs xs → Tries E n ms (i ∷ cs) (ends n m ∷ xs)
to_tries first e = by_first e
to_tries (later k) e = by_later (to_tries k e)

record Tried (E : ℕ → List ℕ → List Pair → Type 0) (n : ℕ) (ms : List ℕ) (i : ℕ) (cs : List ℕ) (xs : List Pair) : Type 0 where
  node : ℕ
  rest : List Pair
  numbered : Nth i ms node
  goes_on : E node cs rest
  pairs : xs ≡ ends n node ∷ rest

from_tries : {E : ℕ → List ℕ → List Pair → Type 0} {n i : ℕ} {ms cs : List ℕ} {xs : List Pair} → Tries E n ms (i ∷ cs) xs → Tried E n ms i cs xs
from_tries (by_first {m = m} {xs = xs} e) = record { node = m; rest = xs; numbered = first; goes_on = e; pairs = refl }
from_tries (by_later t) = let g = from_tries t in record { node = g.node; rest = g.rest; numbered = later g.numbered; goes_on = g.goes_on; pairs = g.pairs }

-- the same of an answer, which may be none
abbrev TriesOf : (ℕ → List ℕ → List Pair → Type 0) → Option Offers → List ℕ → List Pair → Type 0
TriesOf E None cs xs = ⊥
TriesOf E (Some o) cs xs = Tries E o.from o.tos cs xs

up_of : (P : List ℕ → List Pair → Type 0) (E : ℕ → List ℕ → List Pair → Type 0) (a : Option Offers) (cs : List ℕ) (xs : List Pair) → TriesOf E a cs xs → Either P (TriesOf E a) (bump cs) xs
up_of P E None cs xs t = absurd t
up_of P E (Some o) cs xs t = up_tries t

offers_first : (E : ℕ → List ℕ → List Pair → Type 0) (sub : ℕ → ℕ → Option Hit) (st st' : ℕ) → st' ≡ st → ((m : ℕ) → FirstAt st (E m) (sub m st)) → (a : Option Offers) → FirstAt st (TriesOf E a) (by_offers sub a st')
offers_first E sub st st' e h None = λ cs xs t. t
offers_first E sub st st' e h (Some o) = subst (λ u. FirstAt st (Tries E o.from o.tos) (try_offers sub o.from o.tos u)) (sym e) (tries_first st o.from E sub h o.tos)

offered_tries : (E : ℕ → List ℕ → List Pair → Type 0) {a : Option Offers} {i n m : ℕ} (cs : List ℕ) (xs : List Pair) → Offered a i n m → E m cs xs → TriesOf E a (i ∷ cs) (ends n m ∷ xs)
offered_tries E cs xs (Offered.offered k) e = to_tries k e

record TriedOf (E : ℕ → List ℕ → List Pair → Type 0) (a : Option Offers) (i : ℕ) (cs : List ℕ) (xs : List Pair) : Type 0 where
  from : ℕ
  node : ℕ
  rest : List Pair
  numbered : Offered a i from node
  goes_on : E node cs rest
  pairs : xs ≡ ends from node ∷ rest

tried_of : (E : ℕ → List ℕ → List Pair → Type 0) (a : Option Offers) (i : ℕ) (cs : List ℕ) (xs : List Pair) → TriesOf E a (i ∷ cs) xs → TriedOf E a i cs xs
tried_of E None i cs xs t = absurd t
tried_of E (Some o) i cs xs t =
    let g = from_tries t in
    record { from = o.from; node = g.node; rest = g.rest; numbered = Offered.offered g.numbered; goes_on = g.goes_on; pairs = g.pairs }

module _ (V : View) (A : Asking) (st : ℕ) (stays : (b s : ℕ) → A.next st b s ≡ st) where
  abbrev D : Pat → ℕ → List ℕ → List Pair → Type 0
  D = Derives V (A.ask st)

  -- a node that t owns
  record Owned (t m : ℕ) (cs : List ℕ) (xs : List Pair) : Type 0 where
    is : V.owner m ≡ Some t
    no_choice : [] ≡ cs
    no_pair : [] ≡ xs

  owned_first : (t m : ℕ) → FirstAt st (Owned t m) (if_owned V t m st)
  owned_first t m = go (is_the (V.owner m) t) refl
    where
      go : (q : Bool) → is_the (V.owner m) t ≡ q → FirstAt st (Owned t m) (cond q (Some (hit [] st)) None)
      go true e = (refl, ([], record { is = the_owner (V.owner m) t e; no_choice = refl; no_pair = refl }, λ ds ys o. inl (o.no_choice, o.no_pair)))
      go false e = λ cs xs o. true≢false (sym (eq-eqb t t refl) ∙ sym (ap (λ w. is_the w t) o.is) ∙ e)

  only_whole : {t b : ℕ} {ds : List ℕ} {ys : List Pair} → b ≡ t → D (ground t) b ds ys → ([] ≡ ds) × ([] ≡ ys)
  only_whole e Derives.whole_same = (refl, refl)
  only_whole e (Derives.whole_offer ne o own) = absurd (ne e)

  to_exact : {t b : ℕ} {cs : List ℕ} {xs : List Pair} → (b ≡ t → ⊥) → D (ground t) b cs xs → Either (λ _ _. ⊥) (TriesOf (Owned t) (A.ask st b t)) cs xs
  to_exact ne Derives.whole_same = absurd (ne refl)
  to_exact {t} ne (Derives.whole_offer nb o own) = offer (offered_tries (Owned t) [] [] o (record { is = own; no_choice = refl; no_pair = refl }))

  from_exact : {t b : ℕ} {cs : List ℕ} {xs : List Pair} → (b ≡ t → ⊥) → Either (λ _ _. ⊥) (TriesOf (Owned t) (A.ask st b t)) cs xs → D (ground t) b cs xs
  from_exact ne (plain p) = absurd p
  from_exact {t} {b} ne (offer {i = i} {cs = cs} {xs = xs} t') =
      let g = tried_of (Owned t) (A.ask st b t) i cs xs t' in
      subst₂ (D (ground t) b) (ap (λ l. suc i ∷ l) g.goes_on.no_choice) (ap (λ l. ends g.from g.node ∷ l) g.goes_on.no_pair ∙ sym g.pairs)
      (Derives.whole_offer ne g.numbered g.goes_on.is)

  exact_first : (t b : ℕ) → FirstAt st (D (ground t) b) (exact V A t b st)
  exact_first t b = go (eqb b t) refl
    where
      go : (q : Bool) → eqb b t ≡ q → FirstAt st (D (ground t) b) (cond q (Some (hit [] st)) (by_offers (if_owned V t) (A.ask st b t) (A.next st b t)))
      go true e = (refl, ([], subst (λ x. D (ground t) x [] []) (sym (eqb-true b t e)) Derives.whole_same, λ ds ys d. inl (only_whole (eqb-true b t e) d)))
      go false e =
          let r = by_offers (if_owned V t) (A.ask st b t) (A.next st b t) in
          let ne = eqb-false b t e in
          convert st (Either (λ _ _. ⊥) (TriesOf (Owned t) (A.ask st b t))) (D (ground t) b) r (λ cs xs d. from_exact ne d) (λ cs xs d. to_exact ne d)
          (either_first st (λ _ _. ⊥) (TriesOf (Owned t) (A.ask st b t)) (up_of (λ _ _. ⊥) (Owned t) (A.ask st b t)) None r (λ cs xs n. n) (offers_first (Owned t) (if_owned V t) st (A.next st b t) (stays b t) (owned_first t) (A.ask st b t)))

  only_variable : {s b : ℕ} {o : Option ℕ} {ds : List ℕ} {ys : List Pair} → b ≡ s → D (hole s o) b ds ys → ([] ≡ ds) × ([] ≡ ys)
  only_variable e Derives.variable_same = (refl, refl)
  only_variable e (Derives.variable_bound ne d) = absurd (ne e)

  to_variable : {s t b : ℕ} {cs : List ℕ} {xs : List Pair} → (b ≡ s → ⊥) → D (hole s (Some t)) b cs xs → D (ground t) b cs xs
  to_variable ne Derives.variable_same = absurd (ne refl)
  to_variable ne (Derives.variable_bound nb d) = d

  unbound : {s b : ℕ} {cs : List ℕ} {xs : List Pair} → (b ≡ s → ⊥) → D (hole s None) b cs xs → ⊥
  unbound ne Derives.variable_same = ne refl

  bound_first : (s b : ℕ) (o : Option ℕ) → (b ≡ s → ⊥) → FirstAt st (D (hole s o) b) (to_bound V A o b st)
  bound_first s b None ne = λ cs xs d. unbound ne d
  bound_first s b (Some t) ne = convert st (D (ground t) b) (D (hole s (Some t)) b) (exact V A t b st) (λ cs xs d. Derives.variable_bound ne d) (λ cs xs d. to_variable ne d) (exact_first t b)

  variable_first : (s b : ℕ) (o : Option ℕ) → FirstAt st (D (hole s o) b) (cond (eqb b s) (Some (hit [] st)) (to_bound V A o b st))
  variable_first s b o = go (eqb b s) refl
    where
      go : (q : Bool) → eqb b s ≡ q → FirstAt st (D (hole s o) b) (cond q (Some (hit [] st)) (to_bound V A o b st))
      go true e = (refl, ([], subst (λ x. D (hole s o) x [] []) (sym (eqb-true b s e)) Derives.variable_same, λ ds ys d. inl (only_variable (eqb-true b s e) d)))
      go false e = bound_first s b o (eqb-false b s e)

  -- a term that fits, and what its children give
  record Fitting (s : ℕ) (ps : Pats) (o : Option ℕ) (cs : List ℕ) (xs : List Pair) : Type 0 where
    term : ℕ
    is : o ≡ Some term
    fits : V.fits term s ≡ true
    below : DerivesAll V (A.ask st) ps (V.below term) cs xs

  module _ (s : ℕ) (ps : Pats) (kr : List ℕ → ℕ → Option Hit) (all : (bs : List ℕ) → FirstAt st (DerivesAll V (A.ask st) ps bs) (kr bs st)) where
    fits_as : (c : ℕ) (q : Bool) → V.fits c s ≡ q → FirstAt st (Fitting s ps (Some c)) (cond q (kr (V.below c) st) None)
    fits_as c true e = convert st (DerivesAll V (A.ask st) ps (V.below c)) (Fitting s ps (Some c)) (kr (V.below c) st)
        (λ cs xs d. record { term = c; is = refl; fits = e; below = d })
        (λ cs xs d. subst (λ x. DerivesAll V (A.ask st) ps (V.below x) cs xs) (same_some _ _ _ d.is refl) d.below)
        (all (V.below c))
    fits_as c false e = λ cs xs d. true≢false (sym d.fits ∙ ap (λ x. V.fits x s) (same_some _ _ _ d.is refl) ∙ e)

    fits_first : (o : Option ℕ) → FirstAt st (Fitting s ps o) (if_fits V kr s o st)
    fits_first None = λ cs xs d. some_not_none None d.term refl d.is
    fits_first (Some c) = fits_as c (V.fits c s) refl

    only_same : {b : ℕ} {ds : List ℕ} {ys : List Pair} → b ≡ s → D (app s ps) b ds ys → ([] ≡ ds) × ([] ≡ ys)
    only_same e Derives.same = (refl, refl)
    only_same e (Derives.unrewritten ne f d) = absurd (ne e)
    only_same e (Derives.rewritten ne o w f d) = absurd (ne e)

    abbrev Ways : ℕ → List ℕ → List Pair → Type 0
    Ways b = Either (Fitting s ps (Some b)) (TriesOf (λ m. Fitting s ps (V.owner m)) (A.ask st b s))

    to_ways : {b : ℕ} {cs : List ℕ} {xs : List Pair} → (b ≡ s → ⊥) → D (app s ps) b cs xs → Ways b cs xs
    to_ways ne Derives.same = absurd (ne refl)
    to_ways {b} ne (Derives.unrewritten nb f d) = plain (record { term = b; is = refl; fits = f; below = d })
    to_ways ne (Derives.rewritten {c = c} {cs = cs} {xs = xs} nb o w f d) = offer (offered_tries (λ m. Fitting s ps (V.owner m)) cs xs o (record { term = c; is = w; fits = f; below = d }))

    from_ways : {b : ℕ} {cs : List ℕ} {xs : List Pair} → (b ≡ s → ⊥) → Ways b cs xs → D (app s ps) b cs xs
    from_ways {b} ne (plain {cs = cs} {xs = xs} p) =
        let same = same_some _ _ _ p.is refl in
        Derives.unrewritten ne (subst (λ x. V.fits x s ≡ true) same p.fits) (subst (λ x. DerivesAll V (A.ask st) ps (V.below x) cs xs) same p.below)
    from_ways {b} ne (offer {i = i} {cs = cs} {xs = xs} t) =
        let g = tried_of (λ m. Fitting s ps (V.owner m)) (A.ask st b s) i cs xs t in
        subst (D (app s ps) b (suc i ∷ cs)) (sym g.pairs) (Derives.rewritten ne g.numbered g.goes_on.is g.goes_on.fits g.goes_on.below)

    app_first : (b : ℕ) → FirstAt st (D (app s ps) b) (at_app V A kr s b st)
    app_first b = go (eqb b s) refl
      where
        go : (q : Bool) → eqb b s ≡ q → FirstAt st (D (app s ps) b) (cond q (Some (hit [] st)) (else_do (if_fits V kr s (Some b) st) (by_offers (λ m st'. if_fits V kr s (V.owner m) st') (A.ask st b s) (A.next st b s))))
        go true e = (refl, ([], subst (λ x. D (app s ps) x [] []) (sym (eqb-true b s e)) Derives.same, λ ds ys d. inl (only_same (eqb-true b s e) d)))
        go false e =
            let ne = eqb-false b s e in
            let r = if_fits V kr s (Some b) st in
            let q = by_offers (λ m st'. if_fits V kr s (V.owner m) st') (A.ask st b s) (A.next st b s) in
            convert st (Ways b) (D (app s ps) b) (else_do r q) (λ cs xs d. from_ways ne d) (λ cs xs d. to_ways ne d)
            (either_first st (Fitting s ps (Some b)) (TriesOf (λ m. Fitting s ps (V.owner m)) (A.ask st b s)) (up_of (Fitting s ps (Some b)) (λ m. Fitting s ps (V.owner m)) (A.ask st b s)) r q (fits_first (Some b))
            (offers_first (λ m. Fitting s ps (V.owner m)) (λ m st'. if_fits V kr s (V.owner m) st') st (A.next st b s) (stays b s) (λ m. fits_first (V.owner m)) (A.ask st b s)))

  abbrev DAll : Pats → List ℕ → List ℕ → List Pair → Type 0
  DAll = DerivesAll V (A.ask st)

  module _ (p : Pat) (ps : Pats) (b : ℕ) (bs : List ℕ) where
    no_head : ((cs : List ℕ) (xs : List Pair) → D p b cs xs → ⊥) → {ds : List ℕ} {ys : List Pair} → DAll (more p ps) (b ∷ bs) ds ys → ⊥
    no_head f (DerivesAll.one_more d e) = f _ _ d

    no_tail : ((cs : List ℕ) (xs : List Pair) → DAll ps bs cs xs → ⊥) → {ds : List ℕ} {ys : List Pair} → DAll (more p ps) (b ∷ bs) ds ys → ⊥
    no_tail f (DerivesAll.one_more d e) = f _ _ e

    others_all : (cs es : List ℕ) (xs zs : List Pair) → ((ds : List ℕ) (ys : List Pair) → D p b ds ys → ((cs ≡ ds) × (xs ≡ ys)) ⊎ Earlier cs ds) → ((ds : List ℕ) (ys : List Pair) → DAll ps bs ds ys → ((es ≡ ds) × (zs ≡ ys)) ⊎ Earlier es ds) → {ds : List ℕ} {ys : List Pair} → DAll (more p ps) (b ∷ bs) ds ys → ((cs ++ es ≡ ds) × (xs ++ zs ≡ ys)) ⊎ Earlier (cs ++ es) ds
    others_all cs es xs zs f g (DerivesAll.one_more {cs = cs'} {ds = ds'} d e) = ⊎_elim
        (λ same. ⊎_elim
        (λ rest. inl (ap₂ ◌++◌ same.0 rest.0, ap₂ ◌++◌ same.1 rest.1))
        (λ l. inr (subst (λ c. Earlier (cs ++ es) (c ++ ds')) same.0 (earlier_back cs l)))
        (g _ _ e))
        (λ l. inr (earlier_front es ds' l))
        (f _ _ d)

    behind_first : (h : Hit) (r : Option Hit) → FirstAt st (D p b) (Some h) → FirstAt st (DAll ps bs) r → FirstAt st (DAll (more p ps) (b ∷ bs)) (behind h.pairs r)
    behind_first h None f g = λ cs xs d. no_tail g d
    behind_first h (Some k) f g = (g.0, (f.1.0 ++ g.1.0, DerivesAll.one_more f.1.1 g.1.1, λ ds ys d. others_all f.1.0 g.1.0 h.pairs k.pairs f.1.2 g.1.2 d))

    follow_first : (r : Option Hit) (next : ℕ → Option Hit) → FirstAt st (D p b) r → FirstAt st (DAll ps bs) (next st) → FirstAt st (DAll (more p ps) (b ∷ bs)) (follow r next)
    follow_first None next f g = λ cs xs d. no_head f d
    follow_first (Some h) next f g = behind_first h (next h.state) f (subst (λ u. FirstAt st (DAll ps bs) (next u)) (sym f.0) g)

  only_end : {bs ds : List ℕ} {ys : List Pair} → DAll end bs ds ys → ([] ≡ ds) × ([] ≡ ys)
  only_end DerivesAll.none_left = (refl, refl)

  no_terms : {p : Pat} {ps : Pats} {ds : List ℕ} {ys : List Pair} → DAll (more p ps) [] ds ys → ⊥
  no_terms d = elim d [ ]

  mutual
    pub seek_first : (p : Pat) (b : ℕ) → FirstAt st (D p b) (seek V A p b st)
    seek_first (hole s o) b = variable_first s b o
    seek_first (ground t) b = exact_first t b
    seek_first (app s ps) b = app_first s ps (λ bs st'. seek_all V A ps bs st') (λ bs. all_first ps bs) b

    pub all_first : (ps : Pats) (bs : List ℕ) → FirstAt st (DAll ps bs) (seek_all V A ps bs st)
    all_first end bs = (refl, ([], DerivesAll.none_left, λ ds ys d. inl (only_end d)))
    all_first (more p ps) [] = λ cs xs d. no_terms d
    all_first (more p ps) (b ∷ bs) = follow_first p ps b bs (seek V A p b st) (λ st'. seek_all V A ps bs st') (seek_first p b) (all_first ps bs)
