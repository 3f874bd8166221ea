-- What any rewriter finds leads from the term to the part, if its pairs leave from nodes of the term that is asked for.
use Rattle.std.proofs.Common.{◌≡◌, ℕ, Bool, true, false, cond, eqb, List, [], ◌∷◌, ◌++◌, Some, None, Option, sym, refl, subst}
use Rattle.std.proofs.lemmas.Bool.{eqb-true, eqb-false}
use Rattle.store.proofs.Decided.{some_not_none, same_some}
use Rattle.request.specs.declared.kinds.Pair.{Pair}
use Rattle.host.specs.Kept.{the_owner}
use Rattle.host.specs.Reading.{is_the}
use Rattle.rewrite.specs.Meaning.{Offers, RewriterMeaning, query}
use Rattle.matcher.specs.Derivations.{Leads, LeadsAll}
use Rattle.matcher.specs.Laws.{FoundLeads}
use Rattle.matcher.specs.Search.{Asking, Hit, hit, asking, behind, follow, else_do, ends, try_offers, by_offers, if_owned, if_fits, exact, to_bound, at_app, seek, seek_all, if_finished}
use Rattle.matcher.specs.Trees.{Pat, Pats, hole, ground, app, end, more, View, view}

-- what a search gives, if it gives anything
abbrev Gives : (List Pair → Type 0) → Option Hit → Type 0
Gives P None = Unit {0}
Gives P (Some h) = P h.pairs

else_gives : (P : List Pair → Type 0) (r s : Option Hit) → Gives P r → Gives P s → Gives P (else_do r s)
else_gives P None s f g = g
else_gives P (Some h) s f g = f

behind_gives : (P Q : List Pair → Type 0) (ys : List Pair) (r : Option Hit) → ((xs : List Pair) → Q xs → P (ys ++ xs)) → Gives Q r → Gives P (behind ys r)
behind_gives P Q ys None f g = tt
behind_gives P Q ys (Some h) f g = f h.pairs g

follow_gives : (P Q R : List Pair → Type 0) (r : Option Hit) (next : ℕ → Option Hit) → Gives P r → ((st : ℕ) → Gives Q (next st)) → ((xs ys : List Pair) → P xs → Q ys → R (xs ++ ys)) → Gives R (follow r next)
follow_gives P Q R None next f g h = tt
follow_gives P Q R (Some x) next f g h = behind_gives R Q x.pairs (next x.state) (λ ys q. h x.pairs ys f q) (g x.state)

tries_give : (P : List Pair → Type 0) (Q : ℕ → List Pair → Type 0) (sub : ℕ → ℕ → Option Hit) (n st : ℕ) → ((m : ℕ) → Gives (Q m) (sub m st)) → ((m : ℕ) (xs : List Pair) → Q m xs → P (ends n m ∷ xs)) → (ms : List ℕ) → Gives P (try_offers sub n ms st)
tries_give P Q sub n st f g [] = tt
tries_give P Q sub n st f g (m ∷ ms) = else_gives P (behind (ends n m ∷ []) (sub m st)) (try_offers sub n ms st) (behind_gives P (Q m) (ends n m ∷ []) (sub m st) (g m) (f m)) (tries_give P Q sub n st f g ms)

offers_give : (P : List Pair → Type 0) (Q : ℕ → List Pair → Type 0) (sub : ℕ → ℕ → Option Hit) (st : ℕ) (a : Option Offers) → ((m : ℕ) → Gives (Q m) (sub m st)) → ((o : Offers) → a ≡ Some o → (m : ℕ) (xs : List Pair) → Q m xs → P (ends o.from m ∷ xs)) → Gives P (by_offers sub a st)
offers_give P Q sub st None f g = tt
offers_give P Q sub st (Some o) f g = tries_give P Q sub o.from st f (g o refl) o.tos

module _ (V : View) (A : Asking) (leave : (st b s : ℕ) (o : Offers) → A.ask st b s ≡ Some o → V.owner o.from ≡ Some b) where
  record Owned (t m : ℕ) (xs : List Pair) : Type 0 where
    is : V.owner m ≡ Some t
    none : [] ≡ xs

  owned_gives : (t m st : ℕ) → Gives (Owned t m) (if_owned V t m st)
  owned_gives t m st = go (is_the (V.owner m) t) refl
    where
      go : (q : Bool) → is_the (V.owner m) t ≡ q → Gives (Owned t m) (cond q (Some (hit [] st)) None)
      go true e = record { is = the_owner (V.owner m) t e; none = refl }
      go false e = tt

  exact_leads : (t b st : ℕ) → Gives (Leads V (ground t) b) (exact V A t b st)
  exact_leads t b st = go (eqb b t) refl
    where
      go : (q : Bool) → eqb b t ≡ q → Gives (Leads V (ground t) b) (cond q (Some (hit [] st)) (by_offers (if_owned V t) (A.ask st b t) (A.next st b t)))
      go true e = subst (λ x. Leads V (ground t) x []) (sym (eqb-true b t e)) Leads.whole_same
      go false e = offers_give (Leads V (ground t) b) (Owned t) (if_owned V t) (A.next st b t) (A.ask st b t) (λ m. owned_gives t m (A.next st b t))
          (λ o f m xs q. subst (λ ys. Leads V (ground t) b (ends o.from m ∷ ys)) q.none (Leads.whole_pair (eqb-false b t e) (leave st b t o f) q.is))

  bound_leads : (s b st : ℕ) (o : Option ℕ) → (b ≡ s → ⊥) → Gives (Leads V (hole s o) b) (to_bound V A o b st)
  bound_leads s b st None ne = tt
  bound_leads s b st (Some t) ne = weaker (exact V A t b st) (exact_leads t b st)
    where
      weaker : (r : Option Hit) → Gives (Leads V (ground t) b) r → Gives (Leads V (hole s (Some t)) b) r
      weaker None g = tt
      weaker (Some h) g = Leads.variable_bound ne g

  variable_leads : (s b st : ℕ) (o : Option ℕ) → Gives (Leads V (hole s o) b) (cond (eqb b s) (Some (hit [] st)) (to_bound V A o b st))
  variable_leads s b st o = go (eqb b s) refl
    where
      go : (q : Bool) → eqb b s ≡ q → Gives (Leads V (hole s o) b) (cond q (Some (hit [] st)) (to_bound V A o b st))
      go true e = subst (λ x. Leads V (hole s o) x []) (sym (eqb-true b s e)) Leads.variable_same
      go false e = bound_leads s b st o (eqb-false b s e)

  record Fitting (s : ℕ) (ps : Pats) (o : Option ℕ) (xs : List Pair) : Type 0 where
    term : ℕ
    is : o ≡ Some term
    fits : V.fits term s ≡ true
    below : LeadsAll V ps (V.below term) xs

  module _ (s : ℕ) (ps : Pats) (kr : List ℕ → ℕ → Option Hit) (all : (bs : List ℕ) (st : ℕ) → Gives (LeadsAll V ps bs) (kr bs st)) where
    fits_give : (o : Option ℕ) (st : ℕ) → Gives (Fitting s ps o) (if_fits V kr s o st)
    fits_give None st = tt
    fits_give (Some c) st = go (V.fits c s) refl
      where
        put : (r : Option Hit) → V.fits c s ≡ true → Gives (LeadsAll V ps (V.below c)) r → Gives (Fitting s ps (Some c)) r
        put None e g = tt
        put (Some h) e g = record { term = c; is = refl; fits = e; below = g }

        go : (q : Bool) → V.fits c s ≡ q → Gives (Fitting s ps (Some c)) (cond q (kr (V.below c) st) None)
        go true e = put (kr (V.below c) st) e (all (V.below c) st)
        go false e = tt

    app_leads : (b st : ℕ) → Gives (Leads V (app s ps) b) (at_app V A kr s b st)
    app_leads b st = go (eqb b s) refl
      where
        plain : (r : Option Hit) → (b ≡ s → ⊥) → Gives (Fitting s ps (Some b)) r → Gives (Leads V (app s ps) b) r
        plain None ne g = tt
        plain (Some h) ne g =
            let same = same_some _ _ _ g.is refl in
            Leads.unrewritten ne (subst (λ x. V.fits x s ≡ true) same g.fits) (subst (λ x. LeadsAll V ps (V.below x) h.pairs) same g.below)

        go : (q : Bool) → eqb b s ≡ q → Gives (Leads V (app s ps) b) (cond q (Some (hit [] st)) (else_do (if_fits V kr s (Some b) st) (by_offers (λ m st'. if_fits V kr s (V.owner m) st') (A.ask st b s) (A.next st b s))))
        go true e = subst (λ x. Leads V (app s ps) x []) (sym (eqb-true b s e)) Leads.same
        go false e =
            let ne = eqb-false b s e in
            else_gives (Leads V (app s ps) b) (if_fits V kr s (Some b) st) (by_offers (λ m st'. if_fits V kr s (V.owner m) st') (A.ask st b s) (A.next st b s))
            (plain (if_fits V kr s (Some b) st) ne (fits_give (Some b) st))
            (offers_give (Leads V (app s ps) b) (λ m. Fitting s ps (V.owner m)) (λ m st'. if_fits V kr s (V.owner m) st') (A.next st b s) (A.ask st b s) (λ m. fits_give (V.owner m) (A.next st b s))
            (λ o f m xs g. Leads.rewritten ne (leave st b s o f) g.is g.fits g.below))

  mutual
    pub seek_leads : (p : Pat) (b st : ℕ) → Gives (Leads V p b) (seek V A p b st)
    seek_leads (hole s o) b st = variable_leads s b st o
    seek_leads (ground t) b st = exact_leads t b st
    seek_leads (app s ps) b st = app_leads s ps (λ bs st'. seek_all V A ps bs st') (λ bs st'. all_lead ps bs st') b st

    pub all_lead : (ps : Pats) (bs : List ℕ) (st : ℕ) → Gives (LeadsAll V ps bs) (seek_all V A ps bs st)
    all_lead end bs st = LeadsAll.none_left
    all_lead (more p ps) [] st = tt
    all_lead (more p ps) (b ∷ bs) st = follow_gives (Leads V p b) (LeadsAll V ps bs) (LeadsAll V (more p ps) (b ∷ bs)) (seek V A p b st) (λ st'. seek_all V A ps bs st') (seek_leads p b st) (λ st'. all_lead ps bs st') (λ xs ys d e. LeadsAll.one_more d e)

finished_gives : (ρ : RewriterMeaning) (P : List Pair → Type 0) (r : Option Hit) (xs : List Pair) → Gives P r → if_finished ρ r ≡ Some xs → P xs
finished_gives ρ P None xs g e = absurd (some_not_none None xs refl e)
finished_gives ρ P (Some h) xs g e = go (ρ.finished h.state) e
  where
    go : (q : Bool) → cond q (Some h.pairs) None ≡ Some xs → P xs
    go true e = subst P (same_some _ _ _ refl e) g
    go false e = absurd (some_not_none None xs refl e)

pub found_leads : FoundLeads
found_leads S ρ m ns p b xs rules host aside e =
    finished_gives ρ (Leads (view S) p b) (seek (view S) (asking ρ m ns) p b ρ.first) xs
    (seek_leads (view S) (asking ρ m ns) (λ st b s o f. rules.from_owned st (query m ns b s) o (record { host_ruled = host; aside_there = aside }) f) p b ρ.first) e
