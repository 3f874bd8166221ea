-- The search taken step by step gives the same answer.
use Rattle.std.proofs.Common.{◌≡◌, ℕ, Bool, true, false, cond, eqb, List, [], ◌∷◌, ◌++◌, length, take, Some, None, Option, sym, refl, ap, ◌∙◌, append_assoc, append-nil}
use Rattle.std.proofs.lemmas.List.{take_at}
use Rattle.request.specs.declared.kinds.Pair.{Pair}
use Rattle.rewrite.specs.Meaning.{Offers}
use Rattle.matcher.specs.Running.{Run, Out, reached, failed, put, over, on_out, Kids, one_run, offers_run, answer_run, plain_run, fits_run, app_run, run, kids_run, RunsAlike}
use Rattle.matcher.specs.Search.{Asking, Hit, hit, behind, follow, else_do, ends, try_offers, by_offers, if_fits, at_app, seek, seek_all}
use Rattle.matcher.specs.Trees.{Pat, Pats, hole, ground, app, end, more, View}

module _ (V : View) (A : Asking) where
  -- what stands behind acc makes no difference after a failure
  abbrev Blind : (List Pair → Run) → List Pair → Type 0
  Blind f acc = (zs : List Pair) → (f (acc ++ zs)).answer ≡ (f acc).answer

  abbrev from : List Pair → (List Pair → Run) → (Out → Run) → Option Hit → Option Hit
  from acc mk k None = (mk acc).answer
  from acc mk k (Some h) = (k (reached (acc ++ h.pairs) h.state)).answer

  -- the runner of children does what the search of them says
  abbrev Follows : Kids → (List ℕ → ℕ → Option Hit) → Type 0
  Follows kr sub = (bs : List ℕ) (st : ℕ) (acc : List Pair) (mk : List Pair → Run) (k : Out → Run) → Blind mk acc → (kr bs st acc mk k).answer ≡ from acc mk k (sub bs st)

  module _ (kr : Kids) (sub : List ℕ → ℕ → Option Hit) (kri : Follows kr sub) (s n st start : ℕ) (k : Out → Run) (acc : List Pair) (blind : Blind (λ a. k (failed a)) acc) (long : length acc ≡ start) where
    cut_short : (zs : List Pair) → take start (acc ++ zs) ≡ acc
    cut_short zs = take_at acc zs start long

    fitted : (m : ℕ) (later : List Pair → Run) (rest : Option Hit) (c : ℕ) (q : Bool) → ((zs : List Pair) → (later (acc ++ zs)).answer ≡ (k (put acc rest)).answer) → (a : List Pair) → take start a ≡ acc
        → (cond q (kr (V.below c) st (take start a ++ ends n m ∷ []) later k) (later (take start a))).answer ≡ (k (put acc (else_do (behind (ends n m ∷ []) (cond q (sub (V.below c) st) None)) rest))).answer
    fitted m later rest c false h a e = ap (λ x. (later x).answer) (e ∙ sym (append-nil acc)) ∙ h []
    fitted m later rest c true h a e =
        ap (λ x. (kr (V.below c) st (x ++ ends n m ∷ []) later k).answer) e
        ∙ kri (V.below c) st (acc ++ ends n m ∷ []) later k (λ zs. ap (λ x. (later x).answer) (append_assoc acc (ends n m ∷ []) zs) ∙ h (ends n m ∷ zs) ∙ sym (h (ends n m ∷ [])))
        ∙ go (sub (V.below c) st)
      where
        go : (r : Option Hit) → from (acc ++ ends n m ∷ []) later k r ≡ (k (put acc (else_do (behind (ends n m ∷ []) r) rest))).answer
        go None = h (ends n m ∷ [])
        go (Some x) = ap (λ l. (k (reached l x.state)).answer) (append_assoc acc (ends n m ∷ []) x.pairs)

    one_is : (m : ℕ) (later : List Pair → Run) (rest : Option Hit) (o : Option ℕ) → ((zs : List Pair) → (later (acc ++ zs)).answer ≡ (k (put acc rest)).answer) → (a : List Pair) → take start a ≡ acc
        → (one_run V A kr s n m st start k a later o).answer ≡ (k (put acc (else_do (behind (ends n m ∷ []) (if_fits V sub s o st)) rest))).answer
    one_is m later rest None h a e = ap (λ x. (later x).answer) (e ∙ sym (append-nil acc)) ∙ h []
    one_is m later rest (Some c) h a e = fitted m later rest c (V.fits c s) h a e

    offers_are : (ms : List ℕ) (zs : List Pair) → (offers_run V A kr s n ms st start k (acc ++ zs)).answer ≡ (k (put acc (try_offers (λ m st'. if_fits V sub s (V.owner m) st') n ms st))).answer
    offers_are [] zs = blind zs
    offers_are (m ∷ ms) zs = one_is m (offers_run V A kr s n ms st start k) (try_offers (λ m st'. if_fits V sub s (V.owner m) st') n ms st) (V.owner m) (λ ys. offers_are ms ys) (acc ++ zs) (cut_short zs)

  module _ (kr : Kids) (sub : List ℕ → ℕ → Option Hit) (kri : Follows kr sub) (s b st : ℕ) (k : Out → Run) (acc : List Pair) (blind : Blind (λ a. k (failed a)) acc) where
    answered : (a : Option Offers) (st' : ℕ) (zs : List Pair) → (answer_run V A kr s a st' (length acc) k (acc ++ zs)).answer ≡ (k (put acc (by_offers (λ m st''. if_fits V sub s (V.owner m) st'') a st'))).answer
    answered None st' zs = blind zs
    answered (Some o) st' zs = offers_are kr sub kri s o.from st' (length acc) k acc blind refl o.tos zs

    plain_is : (zs : List Pair) → (plain_run V A kr s b st (length acc) k (acc ++ zs)).answer ≡ (k (put acc (by_offers (λ m st''. if_fits V sub s (V.owner m) st'') (A.ask st b s) (A.next st b s)))).answer
    plain_is zs = answered (A.ask st b s) (A.next st b s) zs

    plain_here : (plain_run V A kr s b st (length acc) k acc).answer ≡ (k (put acc (by_offers (λ m st''. if_fits V sub s (V.owner m) st'') (A.ask st b s) (A.next st b s)))).answer
    plain_here = ap (λ a. (plain_run V A kr s b st (length acc) k a).answer) (sym (append-nil acc)) ∙ plain_is []

    fits_are : (q : Bool) → (cond q (kr (V.below b) st acc (plain_run V A kr s b st (length acc) k) k) (plain_run V A kr s b st (length acc) k acc)).answer ≡ (k (put acc (else_do (cond q (sub (V.below b) st) None) (by_offers (λ m st''. if_fits V sub s (V.owner m) st'') (A.ask st b s) (A.next st b s))))).answer
    fits_are false = plain_here
    fits_are true = kri (V.below b) st acc (plain_run V A kr s b st (length acc) k) k (λ zs. plain_is zs ∙ sym plain_here) ∙ go (sub (V.below b) st)
      where
        go : (r : Option Hit) → from acc (plain_run V A kr s b st (length acc) k) k r ≡ (k (put acc (else_do r (by_offers (λ m st''. if_fits V sub s (V.owner m) st'') (A.ask st b s) (A.next st b s))))).answer
        go None = plain_here
        go (Some h) = refl

    app_is : (app_run V A kr s b st acc k).answer ≡ (k (put acc (at_app V A sub s b st))).answer
    app_is = go (eqb b s)
      where
        go : (q : Bool) → (cond q (k (reached acc st)) (fits_run V A kr s b st acc k)).answer ≡ (k (put acc (cond q (Some (hit [] st)) (else_do (if_fits V sub s (Some b) st) (by_offers (λ m st''. if_fits V sub s (V.owner m) st'') (A.ask st b s) (A.next st b s)))))).answer
        go true = ap (λ l. (k (reached l st)).answer) (sym (append-nil acc))
        go false = fits_are (V.fits b s)

  mutual
    pub run_is : (p : Pat) (b st : ℕ) (acc : List Pair) (k : Out → Run) → Blind (λ a. k (failed a)) acc → (run V A p b st acc k).answer ≡ (k (put acc (seek V A p b st))).answer
    run_is (hole s o) b st acc k blind = refl
    run_is (ground t) b st acc k blind = refl
    run_is (app s ps) b st acc k blind = app_is (λ bs st' acc' mk k'. kids_run V A ps bs st' acc' mk k') (λ bs st'. seek_all V A ps bs st') (λ bs st' acc' mk k' h. kids_are ps bs st' acc' mk k' h) s b st k acc blind

    pub kids_are : (ps : Pats) (bs : List ℕ) (st : ℕ) (acc : List Pair) (mk : List Pair → Run) (k : Out → Run) → Blind mk acc → (kids_run V A ps bs st acc mk k).answer ≡ from acc mk k (seek_all V A ps bs st)
    kids_are end bs st acc mk k h = ap (λ l. (k (reached l st)).answer) (sym (append-nil acc))
    kids_are (more p ps) [] st acc mk k h = refl
    kids_are (more p ps) (b ∷ bs) st acc mk k h =
        run_is p b st acc (on_out (λ acc' st'. kids_run V A ps bs st' acc' mk k) mk) h
        ∙ next (seek V A p b st) (λ acc' st' h'. kids_are ps bs st' acc' mk k h')
      where
        last : (x : Hit) (r : Option Hit) → from (acc ++ x.pairs) mk k r ≡ from acc mk k (behind x.pairs r)
        last x None = h x.pairs
        last x (Some y) = ap (λ l. (k (reached l y.state)).answer) (append_assoc acc x.pairs y.pairs)

        next : (r : Option Hit) → ((acc' : List Pair) (st' : ℕ) → Blind mk acc' → (kids_run V A ps bs st' acc' mk k).answer ≡ from acc' mk k (seek_all V A ps bs st')) → (on_out (λ acc' st'. kids_run V A ps bs st' acc' mk k) mk (put acc r)).answer ≡ from acc mk k (follow r (λ st'. seek_all V A ps bs st'))
        next None ih = refl
        next (Some x) ih =
            ih (acc ++ x.pairs) x.state (λ zs. ap (λ l. (mk l).answer) (append_assoc acc x.pairs zs) ∙ h (x.pairs ++ zs) ∙ sym (h x.pairs))
            ∙ last x (seek_all V A ps bs x.state)

pub runs_alike : RunsAlike
runs_alike V A p b st = run_is V A p b st [] over (λ zs. refl) ∙ go (seek V A p b st)
  where
    go : (r : Option Hit) → (over (put [] r)).answer ≡ r
    go None = refl
    go (Some h) = refl
