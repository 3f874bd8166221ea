-- Derivations from a term to a part, with the choice at each place, and what it is that a list of pairs leads.
use Rattle.std.specs.Prelude.{◌≡◌, ℕ, zero, suc, ◌<◌, true, ◌⊎◌, List, [], ◌∷◌, ◌++◌, Some, None, Option, ◌≢◌}
use Rattle.request.specs.declared.kinds.Pair.{Pair}
use Rattle.rewrite.specs.Meaning.{Offers}
use Rattle.matcher.specs.Search.{ends}
use Rattle.matcher.specs.Trees.{Pat, Pats, hole, ground, app, end, more, View}

-- x is the item with number i
pub data Nth {X : Type 0} : ℕ → List X → X → Type 0 where
  first : {x : X} {xs : List X} → Nth zero (x ∷ xs) x
  later : {i : ℕ} {x y : X} {xs : List X} → Nth i xs x → Nth (suc i) (y ∷ xs) x

-- offer i of an answer goes from node n to node m
pub data Offered : Option Offers → ℕ → ℕ → ℕ → Type 0 where
  offered : {n m i : ℕ} {tos : List ℕ} → Nth i tos m → Offered (Some (record { from = n; tos = tos })) i n m

-- Choices stand in preorder: 0 for unrewritten, i + 1 for offer i. A place where the term is the pattern term itself has none.
module _ (V : View) (answer : ℕ → ℕ → Option Offers) where
  mutual
    pub data Derives : Pat → ℕ → List ℕ → List Pair → Type 0 where
      whole_same : {t : ℕ} → Derives (ground t) t [] []
      whole_offer : {t b i n m : ℕ} → (b ≢ t) → Offered (answer b t) i n m → V.owner m ≡ Some t → Derives (ground t) b (suc i ∷ []) (ends n m ∷ [])
      variable_same : {s : ℕ} {o : Option ℕ} → Derives (hole s o) s [] []
      variable_bound : {s t b : ℕ} {cs : List ℕ} {xs : List Pair} → (b ≢ s) → Derives (ground t) b cs xs → Derives (hole s (Some t)) b cs xs
      same : {s : ℕ} {ps : Pats} → Derives (app s ps) s [] []
      unrewritten : {s b : ℕ} {ps : Pats} {cs : List ℕ} {xs : List Pair} → (b ≢ s) → V.fits b s ≡ true → DerivesAll ps (V.below b) cs xs → Derives (app s ps) b (0 ∷ cs) xs
      rewritten : {s b i n m c : ℕ} {ps : Pats} {cs : List ℕ} {xs : List Pair} → (b ≢ s) → Offered (answer b s) i n m → V.owner m ≡ Some c → V.fits c s ≡ true → DerivesAll ps (V.below c) cs xs → Derives (app s ps) b (suc i ∷ cs) (ends n m ∷ xs)

    pub data DerivesAll : Pats → List ℕ → List ℕ → List Pair → Type 0 where
      none_left : {bs : List ℕ} → DerivesAll end bs [] []
      one_more : {p : Pat} {ps : Pats} {b : ℕ} {bs cs ds : List ℕ} {xs ys : List Pair} → Derives p b cs xs → DerivesAll ps bs ds ys → DerivesAll (more p ps) (b ∷ bs) (cs ++ ds) (xs ++ ys)

-- at the first place of different choice, the lower is earlier
pub data Earlier : List ℕ → List ℕ → Type 0 where
  here : {a b : ℕ} {cs ds : List ℕ} → a < b → Earlier (a ∷ cs) (b ∷ ds)
  on : {a : ℕ} {cs ds : List ℕ} → Earlier cs ds → Earlier (a ∷ cs) (a ∷ ds)

-- xs is what the first derivation gives, and every other is later; or nothing is derived
abbrev pub First : (List ℕ → List Pair → Type 0) → Option (List Pair) → Type 0
First D None = (cs : List ℕ) (xs : List Pair) → D cs xs → ⊥
First D (Some xs) = (cs : List ℕ) × D cs xs × ((ds : List ℕ) (ys : List Pair) → D ds ys → ((cs ≡ ds) × (xs ≡ ys)) ⊎ Earlier cs ds)

-- A list leads from a term to a part: as a derivation, with any pairs that leave from a node of the term in place of offers.
module _ (V : View) where
  mutual
    pub data Leads : Pat → ℕ → List Pair → Type 0 where
      whole_same : {t : ℕ} → Leads (ground t) t []
      whole_pair : {t b n m : ℕ} → (b ≢ t) → V.owner n ≡ Some b → V.owner m ≡ Some t → Leads (ground t) b (ends n m ∷ [])
      variable_same : {s : ℕ} {o : Option ℕ} → Leads (hole s o) s []
      variable_bound : {s t b : ℕ} {xs : List Pair} → (b ≢ s) → Leads (ground t) b xs → Leads (hole s (Some t)) b xs
      same : {s : ℕ} {ps : Pats} → Leads (app s ps) s []
      unrewritten : {s b : ℕ} {ps : Pats} {xs : List Pair} → (b ≢ s) → V.fits b s ≡ true → LeadsAll ps (V.below b) xs → Leads (app s ps) b xs
      rewritten : {s b n m c : ℕ} {ps : Pats} {xs : List Pair} → (b ≢ s) → V.owner n ≡ Some b → V.owner m ≡ Some c → V.fits c s ≡ true → LeadsAll ps (V.below c) xs → Leads (app s ps) b (ends n m ∷ xs)

    pub data LeadsAll : Pats → List ℕ → List Pair → Type 0 where
      none_left : {bs : List ℕ} → LeadsAll end bs []
      one_more : {p : Pat} {ps : Pats} {b : ℕ} {bs : List ℕ} {xs ys : List Pair} → Leads p b xs → LeadsAll ps bs ys → LeadsAll (more p ps) (b ∷ bs) (xs ++ ys)
