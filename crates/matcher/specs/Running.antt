-- The search with what comes after it, and with its steps counted: what the machine goes through.
use Rattle.std.specs.Prelude.{◌≡◌, ℕ, suc, cond, List, [], ◌∷◌, ◌++◌, length, take, Some, None, Option, ◌==◌}
use Rattle.request.specs.declared.kinds.Pair.{Pair}
use Rattle.rewrite.specs.Meaning.{Offers}
use Rattle.matcher.specs.Search.{Asking, Hit, hit, ends, seek}
use Rattle.matcher.specs.Trees.{Pat, Pats, hole, ground, app, end, more, View}

-- the answer that the search will give, and the number of steps that it still takes
pub record Run : Type 0 where
  pub answer : Option Hit
  pub steps : ℕ

abbrev pub tick : Run → Run
tick r = record { answer = r.answer; steps = suc r.steps }

-- how a place ends, with the pairs that lie there then; after a failure some may be left over
pub data Out : Type 0 where
  reached : List Pair → ℕ → Out
  failed : List Pair → Out

abbrev pub put : List Pair → Option Hit → Out
put acc None = failed acc
put acc (Some h) = reached (acc ++ h.pairs) h.state

abbrev pub over : Out → Run
over (reached acc st) = record { answer = Some (hit acc st); steps = 0 }
over (failed acc) = record { answer = None; steps = 0 }

abbrev pub on_out : (List Pair → ℕ → Run) → (List Pair → Run) → Out → Run
on_out h m (reached acc st) = h acc st
on_out h m (failed acc) = m acc

-- what searches all children: terms, state, pairs, what to do at a failure, and what then
abbrev pub Kids : Type 0
Kids = List ℕ → ℕ → List Pair → (List Pair → Run) → (Out → Run) → Run

module _ (V : View) (A : Asking) where
  abbrev pub one_run : Kids → ℕ → ℕ → ℕ → ℕ → ℕ → (Out → Run) → List Pair → (List Pair → Run) → Option ℕ → Run
  one_run kr s n m st start k acc later None = later (take start acc)
  one_run kr s n m st start k acc later (Some c) = cond (V.fits c s) (kr (V.below c) st (take start acc ++ ends n m ∷ []) later k) (later (take start acc))

  abbrev pub offers_run : Kids → ℕ → ℕ → List ℕ → ℕ → ℕ → (Out → Run) → List Pair → Run
  offers_run kr s n [] st start k acc = tick (k (failed acc))
  offers_run kr s n (m ∷ ms) st start k acc = tick (one_run kr s n m st start k acc (offers_run kr s n ms st start k) (V.owner m))

  abbrev pub answer_run : Kids → ℕ → Option Offers → ℕ → ℕ → (Out → Run) → List Pair → Run
  answer_run kr s None st start k acc = k (failed acc)
  answer_run kr s (Some o) st start k acc = offers_run kr s o.from o.tos st start k acc

  abbrev pub plain_run : Kids → ℕ → ℕ → ℕ → ℕ → (Out → Run) → List Pair → Run
  plain_run kr s b st start k acc = tick (answer_run kr s (A.ask st b s) (A.next st b s) start k acc)

  abbrev pub fits_run : Kids → ℕ → ℕ → ℕ → List Pair → (Out → Run) → Run
  fits_run kr s b st acc k = cond (V.fits b s) (kr (V.below b) st acc (plain_run kr s b st (length acc) k) k) (plain_run kr s b st (length acc) k acc)

  abbrev pub app_run : Kids → ℕ → ℕ → ℕ → List Pair → (Out → Run) → Run
  app_run kr s b st acc k = tick (cond (b == s) (k (reached acc st)) (fits_run kr s b st acc k))

  abbrev mutual
    pub run : Pat → ℕ → ℕ → List Pair → (Out → Run) → Run
    run (hole s o) b st acc k = tick (k (put acc (seek V A (hole s o) b st)))
    run (ground t) b st acc k = tick (k (put acc (seek V A (ground t) b st)))
    run (app s ps) b st acc k = app_run (λ bs st' acc' mk k'. kids_run ps bs st' acc' mk k') s b st acc k

    pub kids_run : Pats → List ℕ → ℕ → List Pair → (List Pair → Run) → (Out → Run) → Run
    kids_run end bs st acc mk k = tick (k (reached acc st))
    kids_run (more p ps) [] st acc mk k = tick (mk acc)
    kids_run (more p ps) (b ∷ bs) st acc mk k = tick (run p b st acc (on_out (λ acc' st'. kids_run ps bs st' acc' mk k) mk))

-- taken step by step, with nothing behind it, the search gives the same answer
abbrev pub RunsAlike : Type 0
RunsAlike = (V : View) (A : Asking) (p : Pat) (b st : ℕ) → (run V A p b st [] over).answer ≡ seek V A p b st
