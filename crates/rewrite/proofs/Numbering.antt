-- Pairs by their number: the next one, and those that are read both ways.
use Rattle.std.proofs.Common.{◌≡◌, ℕ, zero, suc, ◌+◌, ◌<◌, ◌≤◌, Bool, true, false, cond, List, [], ◌∷◌, ◌++◌, length, get_or, take, drop, take-append-drop, Some, None, sym, refl, ap, subst, ◌∙◌, arith, length-append}
use lib.ListN.{length-map}
use Rattle.std.specs.List.{slice_get, filter, flat_map, count_by, position, position_or_len}
use Rattle.std.proofs.lemmas.List.{at_drop_more}
use Rattle.std.proofs.lemmas.List.Concat.{flat_map-append}
use Rattle.std.proofs.lemmas.List.Elements.{filter-append}
use Rattle.std.proofs.lemmas.List.Sums.{length-filter, fails_before_first}
use Rattle.std.proofs.lemmas.Grind.{common_steps}
use Rattle.std.proofs.lemmas.Bool.{cond-true, cond-false}
use Rattle.std.proofs.lemmas.List.Quantifiers.{position-Some}
use Rattle.store.specs.Tables.{Tables}
use Rattle.std.specs.ControlFlow.{break_value}
use Rattle.std.specs.declared.ops.ControlFlow.{ControlFlow}
use Rattle.std.specs.declared.ops.ControlFlow.TheVariants.{Continue, Break}
use Rattle.std.proofs.lemmas.Option.{none-some, same_Some, slice_get_past}
use Rattle.request.specs.declared.kinds.Pair.{Pair}
use Rattle.request.specs.Pairs.{is_proper}
use Rattle.rewrite.specs.Kinds.{upcoming, leaves, turned, both, one_way, ways, Reaches, far_ends}
use Rattle.rewrite.specs.Meaning.{counted}

-- the pair whose turn it is, by its place among those that are left
module _ (S : Tables) (d : Pair) where
  pub upcoming_none : (n : ℕ) (ps : List Pair) → ((k : ℕ) → k < length ps → is_proper S (get_or ps k d) ≡ false) → upcoming S n ps ≡ None
  upcoming_none n [] h = refl
  upcoming_none n (p ∷ ps) h = cond-false _ _ _ (h 0 (omega arith)) ∙ upcoming_none (suc n) ps (λ k l. h (suc k) (omega arith))

  pub upcoming_at : (n i : ℕ) (ps : List Pair) → i < length ps → is_proper S (get_or ps i d) ≡ true → ((k : ℕ) → k < i → is_proper S (get_or ps k d) ≡ false) → upcoming S n ps ≡ Some (record { number = n + i; pair = get_or ps i d })
  upcoming_at n i [] l e h = absurd (omega arith)
  upcoming_at n zero (p ∷ ps) l e h = cond-true _ _ _ e ∙ ap (λ m. Some (record { number = m; pair = p })) (omega arith)
  upcoming_at n (suc i) (p ∷ ps) l e h = cond-false _ _ _ (h 0 (omega arith)) ∙ upcoming_at (suc n) i ps (omega arith) e (λ k m. h (suc k) (omega arith)) ∙ ap (λ m. Some (record { number = m; pair = get_or ps i d })) (omega arith)

  pub upcoming_first : (n i : ℕ) (ps : List Pair) → position (is_proper S) ps ≡ Some i → Some (record { number = n + i; pair = get_or ps i d }) ≡ upcoming S n ps
  upcoming_first n i ps e = let at = position-Some (is_proper S) ps i d e in sym (upcoming_at n i ps at.0 at.1 at.2)

  pub upcoming_past : (n : ℕ) (ps : List Pair) → position (is_proper S) ps ≡ None → None ≡ upcoming S n ps
  upcoming_past n ps e =
      let long : length ps ≤ position_or_len (is_proper S) ps = grind (arith, common_steps) in
      sym (upcoming_none n ps (λ k l. fails_before_first (is_proper S) ps k d (omega arith)))

pub ways_append : (S : Tables) (b : ℕ) (xs ys : List Pair) → ways S (xs ++ ys) b ≡ ways S xs b ++ ways S ys b
ways_append S b xs ys = ap (filter (λ p. leaves S p b)) (flat_map-append both xs ys) ∙ filter-append (λ p. leaves S p b) (flat_map both xs) (flat_map both ys)

-- the ways of one pair more stand before the others
pub ways_more : (S : Tables) (b : ℕ) (p : Pair) (ps : List Pair) → ways S (p ∷ ps) b ≡ one_way S p b ++ (one_way S (turned p) b ++ ways S ps b)
ways_more S b p ps = go (leaves S p b) (leaves S (turned p) b)
  where
    rest : List Pair
    rest = ways S ps b

    go : (x y : Bool) → cond x (p ∷ cond y (turned p ∷ rest) rest) (cond y (turned p ∷ rest) rest) ≡ cond x (p ∷ []) [] ++ (cond y (turned p ∷ []) [] ++ rest)
    go true true = refl
    go true false = refl
    go false true = refl
    go false false = refl

-- what is reached among the first ways is reached among all, and what is left behind them is looked for among the others
pub reached : (xs ys : List Pair) (n : ℕ) (w : Pair) → Reaches xs n (Break w) → Reaches (xs ++ ys) n (Break w)
reached [] ys n w e = absurd (none-some w e)
reached (x ∷ xs) ys zero w e = e
reached (x ∷ xs) ys (suc n) w e = reached xs ys n w e

pub behind : (xs ys : List Pair) (n left : ℕ) (r : ControlFlow Pair ℕ) → Reaches xs n (Continue left) → Reaches ys left r → Reaches (xs ++ ys) n r
behind xs ys n left (Continue more) e f = omega (arith, e, f, length-append xs ys)
behind [] ys n left (Break w) e f = subst (λ k. slice_get ys k ≡ Some w) (sym (e ∙ omega arith)) f
behind (x ∷ xs) ys zero left (Break w) e f = absurd (omega (arith, e))
behind (x ∷ xs) ys (suc n) left (Break w) e f = behind xs ys n left (Break w) (omega (arith, e)) f

pub told : (ws : List Pair) (n : ℕ) (r : ControlFlow Pair ℕ) → Reaches ws n r → break_value r ≡ slice_get ws n
told ws n (Continue left) e = sym (slice_get_past ws n (omega (arith, e)))
told ws n (Break w) e = sym e

-- going over the ways of the pairs before, then over those of the pair that stands there and all behind it
pub walked : (S : Tables) (b : ℕ) (ps : List Pair) (i : ℕ) (d : Pair) (n left : ℕ) (r : ControlFlow Pair ℕ) → i < length ps → Reaches (ways S (take i ps) b) n (Continue left) → Reaches (one_way S (get_or ps i d) b ++ (one_way S (turned (get_or ps i d)) b ++ ways S (drop (i + 1) ps) b)) left r → Reaches (ways S ps b) n r
walked S b ps i d n left r within e f = subst (λ l. Reaches l n r) same (behind before here n left r e f)
  where
    before : List Pair
    before = ways S (take i ps) b

    here : List Pair
    here = one_way S (get_or ps i d) b ++ (one_way S (turned (get_or ps i d)) b ++ ways S (drop (i + 1) ps) b)

    same : before ++ here ≡ ways S ps b
    same = ap (λ l. before ++ l) (sym (at_drop_more (λ l. ways S l b) ps i d within ∙ ways_more S b (get_or ps i d) (drop (i + 1) ps))) ∙ sym (ways_append S b (take i ps) (drop i ps)) ∙ ap (λ l. ways S l b) (take-append-drop i ps)

pub ways_long : (S : Tables) (b : ℕ) (ps : List Pair) → length (ways S ps b) ≡ count_by (λ p. leaves S p b) ps + count_by (λ p. leaves S (turned p) b) ps
ways_long S b ps = length-filter (λ p. leaves S p b) (flat_map both ps) ∙ go ps
  where
    go : (ps : List Pair) → count_by (λ p. leaves S p b) (flat_map both ps) ≡ count_by (λ p. leaves S p b) ps + count_by (λ p. leaves S (turned p) b) ps
    go [] = refl
    go (p ∷ ps) = let h = go ps in grind (arith, common_steps, h)

pub far_some : (ps : List Pair) (p : Pair) → slice_get ps 0 ≡ Some p → counted (far_ends ps) ≡ Some (record { from = p.from; count = length ps })
far_some [] p e = cc
far_some (x ∷ ps) p e = let same = same_Some x p e in λ i. Some (record { from = (same i).from; count = length-map (x ∷ ps) (λ y. y.to) i })
