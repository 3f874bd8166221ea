-- A term with at most 64 places is read whole: its tree does not hang on how deep it may be read.
use Rattle.std.proofs.Common.{◌≡◌, ℕ, zero, suc, ◌≤◌, List, length, Some, None, Option, refl, ap, ◌∙◌, ap₂, arith, length-append}
use Rattle.store.specs.declared.term.HasVar.{HasVar}
use Rattle.store.specs.declared.term.HasVar.TheVariants.{No, Yes, Unknown}
use Rattle.store.specs.declared.term.Term.{Term}
use Rattle.store.specs.declared.term.TermKind.{TermKind}
use Rattle.store.specs.declared.term.TermKind.TheVariants.{Var, App, Quant}
use Rattle.store.specs.Tables.{term_at, kids}
use Rattle.request.specs.Asked.{Asked}
use Rattle.request.specs.Places.{Preorder, Preorders, place, none, opened, opened_in, opened_as}
use Rattle.matcher.specs.Trees.{Pat, app, more, places, places_all, tree_as, tree_of, all_trees, part_in}

module _ (R : Asked) where
  as_same : (s : ℕ) (k : TermKind) (m : HasVar) (ks : List ℕ) (f g : ℕ → Pat) → all_trees f (opened_as k m ks) ≡ all_trees g (opened_as k m ks) → tree_as R s k m (all_trees f ks) ≡ tree_as R s k m (all_trees g ks)
  as_same s (Var v) m ks f g e = refl
  as_same s (App h) No ks f g e = refl
  as_same s (App h) Yes ks f g e = ap (app s) e
  as_same s (App h) Unknown ks f g e = ap (app s) e
  as_same s (Quant q) m ks f g e = refl

  -- only the children that are places of their own count
  tree_same : (s : ℕ) (o : Option Term) (f g : ℕ → Pat) → all_trees f (opened_in R.store o) ≡ all_trees g (opened_in R.store o) → tree_of R s o f ≡ tree_of R s o g
  tree_same s None f g e = refl
  tree_same s (Some x) f g e = as_same s x.kind x.has_var (kids R.store x) f g e

  as_size : (s : ℕ) (k : TermKind) (m : HasVar) (ks : List ℕ) (f : ℕ → Pat) → places (tree_as R s k m (all_trees f ks)) ≡ suc (places_all (all_trees f (opened_as k m ks)))
  as_size s (Var v) m ks f = refl
  as_size s (App h) No ks f = refl
  as_size s (App h) Yes ks f = refl
  as_size s (App h) Unknown ks f = refl
  as_size s (Quant q) m ks f = refl

  tree_size : (s : ℕ) (o : Option Term) (f : ℕ → Pat) → places (tree_of R s o f) ≡ suc (places_all (all_trees f (opened_in R.store o)))
  tree_size s None f = refl
  tree_size s (Some x) f = as_size s x.kind x.has_var (kids R.store x) f

  deeper : (k j c : ℕ) (ts : List ℕ) → suc (length ts) ≤ k → suc (length ts) ≤ j → ((k' j' : ℕ) → length ts ≤ k' → length ts ≤ j' → all_trees (part_in R k') (opened R.store c) ≡ all_trees (part_in R j') (opened R.store c)) → part_in R k c ≡ part_in R j c
  deeper zero j c ts h l same = absurd (omega arith)
  deeper (suc k) zero c ts h l same = absurd (omega arith)
  deeper (suc k) (suc j) c ts h l same = tree_same c (term_at R.store c) (part_in R k) (part_in R j) (same k j (omega arith) (omega arith))

  mutual
    pub stable : (k j : ℕ) {c : ℕ} {ts : List ℕ} → Preorder R.store c ts → length ts ≤ k → length ts ≤ j → part_in R k c ≡ part_in R j c
    stable k j (place {t = c} {ts = ts} q) h l = deeper k j c ts h l (λ k' j' h' l'. stable_all k' j' q h' l')

    pub stable_all : (k j : ℕ) {cs ts : List ℕ} → Preorders R.store cs ts → length ts ≤ k → length ts ≤ j → all_trees (part_in R k) cs ≡ all_trees (part_in R j) cs
    stable_all k j none h l = refl
    stable_all k j (Preorders.more {ts = ts} {us = us} p r) h l =
        let long = length-append ts us in
        ap₂ more (stable k j p (omega arith) (omega arith)) (stable_all k j r (omega arith) (omega arith))

  size_deeper : (k c : ℕ) (ts : List ℕ) → suc (length ts) ≤ k → ((k' : ℕ) → length ts ≤ k' → places_all (all_trees (part_in R k') (opened R.store c)) ≡ length ts) → places (part_in R k c) ≡ suc (length ts)
  size_deeper zero c ts h same = absurd (omega arith)
  size_deeper (suc k) c ts h same = tree_size c (term_at R.store c) (part_in R k) ∙ ap suc (same k (omega arith))

  mutual
    pub size_is : (k : ℕ) {c : ℕ} {ts : List ℕ} → Preorder R.store c ts → length ts ≤ k → places (part_in R k c) ≡ length ts
    size_is k (place {t = c} {ts = ts} q) h = size_deeper k c ts h (λ k' h'. sizes_are k' q h')

    sizes_are : (k : ℕ) {cs ts : List ℕ} → Preorders R.store cs ts → length ts ≤ k → places_all (all_trees (part_in R k) cs) ≡ length ts
    sizes_are k none h = refl
    sizes_are k (Preorders.more {ts = ts} {us = us} p r) h =
        let long = length-append ts us in
        let a = size_is k p (omega arith) in
        let b = sizes_are k r (omega arith) in
        omega arith
