-- A level goes on with its next child.
use Rattle.std.proofs.Common.{◌≡◌, ℕ, zero, suc, ◌+◌, ◌≤◌, List, [], ◌∷◌, ◌++◌, reverse, length, drop, Some, None, Option, sym, refl, ap, ◌∙◌, subst, append-nil, add-one, arith, length-append}
use Rattle.std.specs.List.{slice_get}
use Rattle.std.proofs.lemmas.List.{reverse-append}
use Rattle.store.proofs.Decided.{some_not_none, same_some}
use Rattle.store.specs.declared.term.HasVar.{HasVar}
use Rattle.store.specs.declared.term.HasVar.TheVariants.{No, Yes, Unknown}
use Rattle.store.specs.declared.term.Term.{Term}
use Rattle.store.specs.declared.term.TermKind.{TermKind}
use Rattle.store.specs.declared.term.TermKind.TheVariants.{Var, App, Quant}
use Rattle.store.specs.Tables.{term_at, kids}
use Rattle.request.specs.declared.kinds.Pair.{Pair}
use Rattle.request.specs.Asked.{Asked}
use Rattle.request.specs.Places.{Preorder, Preorders, place, opened, opened_in, opened_as}
use Rattle.rewrite.specs.Meaning.{RewriterMeaning}
use Rattle.matcher.specs.declared.level.Level.{Level}
use Rattle.matcher.specs.declared.level.Mode.TheVariants.{Hit}
use Rattle.matcher.specs.declared.machine.PatternMatcher.{PatternMatcher}
use Rattle.matcher.specs.Machine.{pats_in, pats_of, drop_pats, left, resume, phase_run, Finite, size, LevelSound, Stacked, ModeSound}
use Rattle.matcher.specs.Running.{tick, on_out, run, kids_run}
use Rattle.matcher.specs.Search.{Asking}
use Rattle.matcher.specs.Stepping.{stack, next_child, kept_level, next_mode, Advances, Stepped}
use Rattle.matcher.specs.Trees.{Pat, Pats, hole, ground, app, end, more, places, places_all, part, part_in, tree_of, tree_as, all_trees, below_as, view}
use Rattle.matcher.proofs.Offering.{drop_nth, drop_none}
use Rattle.matcher.proofs.Turning.{stepped_at}

drop_trees : (f : ℕ → Pat) (n : ℕ) (cs : List ℕ) → drop_pats n (all_trees f cs) ≡ all_trees f (drop n cs)
drop_trees f zero cs = refl
drop_trees f (suc n) [] = refl
drop_trees f (suc n) (c ∷ cs) = drop_trees f n cs

-- a child that is a place has places of its own, fewer than the whole
record Child (R : Asked) (c : ℕ) (ts : List ℕ) : Type 0 where
  places_of : List ℕ
  listed : Preorder R.store c places_of
  few : length places_of ≤ length ts

child_of : (R : Asked) (n c : ℕ) {cs ts : List ℕ} → Preorders R.store cs ts → slice_get cs n ≡ Some c → Child R c ts
child_of R n c Preorders.none e = absurd (some_not_none None c refl e)
child_of R zero c (Preorders.more {ts = ts} {us = us} p r) e = record { places_of = ts; listed = subst (λ x. Preorder R.store x ts) (same_some _ _ c refl e) p; few = omega (arith, length-append ts us) }
child_of R (suc n) c (Preorders.more {ts = ts} {us = us} p r) e = let g = child_of R n c r e in record { places_of = g.places_of; listed = g.listed; few = omega (arith, g.few, length-append ts us) }

child_finite : (R : Asked) (s n c : ℕ) → Finite R s → slice_get (opened R.store s) n ≡ Some c → Finite R c
child_finite R s n c f e = go f.1 f.2
  where
    go : {ts : List ℕ} → Preorder R.store s ts → length ts ≤ 64 → Finite R c
    go (place q) h = let g = child_of R n c q e in (g.places_of, g.listed, omega (arith, g.few))

-- an application that is opened has all its children as places
opened_below : (R : Asked) (s : ℕ) (o : Option Term) (f : ℕ → Pat) (ps : Pats) → tree_of R s o f ≡ app s ps → opened_in R.store o ≡ below_as R.store o
opened_below R s None f ps e = refl
opened_below R s (Some x) f ps e = go x.kind x.has_var e
  where
    tag : Pat → ℕ
    tag (hole s o) = 0
    tag (ground t) = 0
    tag (app s ps) = 1

    go : (k : TermKind) (m : HasVar) → tree_as R s k m (all_trees f (kids R.store x)) ≡ app s ps → opened_as k m (kids R.store x) ≡ kids R.store x
    go (Var v) m e = absurd (let z = ap tag e in omega arith)
    go (App g) No e = absurd (let z = ap tag e in omega arith)
    go (App g) Yes e = refl
    go (App g) Unknown e = refl
    go (Quant q) m e = absurd (let z = ap tag e in omega arith)

drop_pats_less : (n : ℕ) (ps : Pats) → places_all (drop_pats n ps) ≤ places_all ps
drop_pats_less zero ps = omega arith
drop_pats_less (suc n) end = omega arith
drop_pats_less (suc n) (more p ps) = omega (arith, drop_pats_less n ps)

module _ (R : Asked) (ρ : RewriterMeaning) (A : Asking) (l : Level) (ls : List Level) (acc : List Pair) (st : ℕ) (ok : LevelSound R ρ A l ls) where
  abbrev os : List ℕ
  os = below_as R.store (term_at R.store l.subpat)

  abbrev bs : List ℕ
  bs = (view R.store).below l.term

  same_kids : opened R.store l.subpat ≡ os
  same_kids = opened_below R l.subpat (term_at R.store l.subpat) (part_in R 63) _ ok.opens

  trees : pats_of R l.subpat ≡ all_trees (part R) os
  trees = ap pats_in ok.opens ∙ ap (all_trees (part R)) same_kids

  left_trees : (n : ℕ) → drop_pats n (pats_of R l.subpat) ≡ all_trees (part R) (drop n os)
  left_trees n = ap (drop_pats n) trees ∙ drop_trees (part R) n os

  -- the three ways to go on
  pub advance : (s b : Option ℕ) → slice_get os l.child ≡ s → slice_get bs l.child ≡ b → left R A (l ∷ ls) acc Hit st ≡ tick (left R A (kept_level l s b ++ ls) acc (next_mode s b) st)
  advance None b e f = ap (λ ps. kids_run (view R.store) A ps (drop l.child bs) st acc (phase_run R A l l.phase (resume R A ls)) (resume R A ls)) (left_trees l.child ∙ ap (all_trees (part R)) (drop_none os l.child e))
  advance (Some s) None e f =
      ap (λ ps. kids_run (view R.store) A ps (drop l.child bs) st acc (phase_run R A l l.phase (resume R A ls)) (resume R A ls)) (left_trees l.child ∙ ap (all_trees (part R)) (drop_nth os l.child s e))
      ∙ ap (λ cs. kids_run (view R.store) A (all_trees (part R) (s ∷ drop (suc l.child) os)) cs st acc (phase_run R A l l.phase (resume R A ls)) (resume R A ls)) (drop_none bs l.child f)
  advance (Some s) (Some b) e f =
      ap (λ ps. kids_run (view R.store) A ps (drop l.child bs) st acc (phase_run R A l l.phase (resume R A ls)) (resume R A ls)) (left_trees l.child ∙ ap (all_trees (part R)) (drop_nth os l.child s e))
      ∙ ap (λ cs. kids_run (view R.store) A (all_trees (part R) (s ∷ drop (suc l.child) os)) cs st acc (phase_run R A l l.phase (resume R A ls)) (resume R A ls)) (drop_nth bs l.child b f)
      ∙ (λ i. tick (run (view R.store) A (part R s) b st acc (on_out (λ acc' st'. kids_run (view R.store) A (P i) (Q i) st' acc' (phase_run R A l l.phase (resume R A ls)) (resume R A ls)) (phase_run R A l l.phase (resume R A ls)))))
    where
      P : all_trees (part R) (drop (suc l.child) os) ≡ drop_pats (l.child + 1) (pats_of R l.subpat)
      P = sym (left_trees (suc l.child)) ∙ ap (λ n. drop_pats n (pats_of R l.subpat)) (sym (add-one l.child))

      Q : drop (suc l.child) bs ≡ drop (l.child + 1) bs
      Q = ap (λ n. drop n bs) (sym (add-one l.child))

  next_sound : LevelSound R ρ A (next_child l) ls
  next_sound = record { finite = ok.finite; opens = ok.opens; shallow = ok.shallow; room = ok.room; marked = ok.marked; phased = ok.phased }

  pub advance_levels : (s b : Option ℕ) → Stacked R ρ A ls → Stacked R ρ A (kept_level l s b ++ ls)
  advance_levels None b h = h
  advance_levels (Some s) None h = (ok, h)
  advance_levels (Some s) (Some b) h = (next_sound, h)

  owed_now : (s : ℕ) → slice_get os l.child ≡ Some s → places_all (drop_pats l.child (pats_of R l.subpat)) ≡ size R s + places_all (drop_pats (l.child + 1) (pats_of R l.subpat))
  owed_now s e =
      ap places_all (left_trees l.child ∙ ap (all_trees (part R)) (drop_nth os l.child s e))
      ∙ ap (λ ps. size R s + places_all ps) (sym (left_trees (suc l.child)) ∙ ap (λ n. drop_pats n (pats_of R l.subpat)) (sym (add-one l.child)))

  pub size_now : size R l.subpat ≡ suc (places_all (pats_of R l.subpat))
  size_now = ap places ok.opens ∙ ap (λ p. suc (places_all (pats_in p))) (sym ok.opens)

  pub advance_mode : (s b : Option ℕ) → slice_get os l.child ≡ s → ModeSound R ρ (l ∷ ls) acc st Hit → ModeSound R ρ (kept_level l s b ++ ls) acc st (next_mode s b)
  advance_mode None b e h = (omega (arith, h.0, ok.room, ap places_all (left_trees l.child ∙ ap (all_trees (part R)) (drop_none os l.child e))), h.1)
  advance_mode (Some s) None e h = tt
  advance_mode (Some s) (Some b) e h = (
    child_finite R l.subpat l.child s ok.finite (ap (λ cs. slice_get cs l.child) same_kids ∙ e),
    omega (arith, ok.shallow, size_now, owed_now s e, drop_pats_less l.child (pats_of R l.subpat)),
    omega (arith, h.0, owed_now s e),
    h.1,
  )

kept_stack : (hs : List Level) (l : Level) (s b : Option ℕ) → reverse (hs ++ kept_level l s b) ≡ kept_level l s b ++ reverse hs
kept_stack hs l None b = ap reverse (append-nil hs)
kept_stack hs l (Some s) None = reverse-append hs (l ∷ [])
kept_stack hs l (Some s) (Some b) = reverse-append hs (next_child l ∷ [])

pub advance_turn : (R : Asked) (ρ : RewriterMeaning) (A : Asking) (M M' : PatternMatcher) (l : Level) (st : ℕ) (s b : Option ℕ) → Stacked R ρ A (l ∷ stack M) → ModeSound R ρ (l ∷ stack M) M.pairs st Hit → slice_get (below_as R.store (term_at R.store l.subpat)) l.child ≡ s → slice_get ((view R.store).below l.term) l.child ≡ b → Advances M l s b M' → Stepped R ρ A (left R A (l ∷ stack M) M.pairs Hit st) M' st
advance_turn R ρ A M M' l st s b stacked here e f done =
    stepped_at R ρ A (left R A (l ∷ stack M) M.pairs Hit st) M' st (kept_level l s b ++ stack M) M.pairs (next_mode s b)
    (ap reverse done.levels ∙ kept_stack M.levels l s b) done.pairs done.mode
    (advance R ρ A l (stack M) M.pairs st stacked.0 s b e f)
    (advance_levels R ρ A l (stack M) M.pairs st stacked.0 s b stacked.1)
    (advance_mode R ρ A l (stack M) M.pairs st stacked.0 s b e here)
