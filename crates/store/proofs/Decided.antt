-- Answers of a test that is settled.
use Rattle.std.proofs.Common.{◌≡◌, ℕ, zero, suc, ◌+◌, ◌<◌, ◌≤◌, true, false, List, [], ◌∷◌, length, Some, None, Decides, Option, sym, refl, subst, ⊎_elim, arith, below_more}
use Rattle.std.specs.List.{slice_get, All}
use Rattle.std.proofs.lemmas.Option.{slice_get_past, slice_get_within, get_or_from_slice_get}
use Rattle.std.proofs.lemmas.Bool.{false≢true, cases_lt}

-- an option is one thing
pub some_not_none : {X : Type 0} (o : Option X) (x : X) → None ≡ o → o ≡ Some x → ⊥
some_not_none o x n e = let z : ◌≡◌ {A = ℕ} 0 1 = cc in omega arith

pub same_some : {X : Type 0} (o : Option X) (x y : X) → o ≡ Some x → o ≡ Some y → x ≡ y
same_some o x y e f = cc

pub passed : (Q : Type 0) → Q → Decides true Q
passed Q q = (λ _. q, λ _. refl)

pub refused : (Q : Type 0) → (Q → ⊥) → Decides false Q
refused Q n = (λ e. absurd (false≢true e), λ q. absurd (n q))

-- what holds of all elements holds of the one that is read at a place
pub all_at : {X : Type 0} (P : X → Type 0) (xs : List X) (i : ℕ) (x : X) → All P xs → slice_get xs i ≡ Some x → P x
all_at P xs i x all e = subst P (get_or_from_slice_get xs i x x e) (all i x (slice_get_within xs i x e))

pub nth_there : {X : Type 0} (xs : List X) (i : ℕ) → i < length xs → (x : X) × (slice_get xs i ≡ Some x)
nth_there [] i h = absurd (omega arith)
nth_there (x ∷ xs) zero h = (x, refl)
nth_there (x ∷ xs) (suc i) h = nth_there xs i (omega arith)

-- what holds of each item of a table, by its place: the first i of them
abbrev pub Below : {X : Type 0} → (ℕ → X → Type 0) → List X → ℕ → Type 0
Below {X} P xs i = (k : ℕ) → k < i → (x : X) → slice_get xs k ≡ Some x → P k x

abbrev pub Each : {X : Type 0} → (ℕ → X → Type 0) → List X → Type 0
Each {X} P xs = (k : ℕ) (x : X) → slice_get xs k ≡ Some x → P k x

pub below_next : {X : Type 0} (P : ℕ → X → Type 0) (xs : List X) (i : ℕ) (y : X) → slice_get xs i ≡ Some y → P i y → Below P xs i → Below P xs (i + 1)
below_next P xs i y e p below = below_more _ _ below (λ x f. subst (P i) (same_some _ y x e f) p)

pub below_all : {X : Type 0} (P : ℕ → X → Type 0) (xs : List X) (i : ℕ) → length xs ≤ i → Below P xs i → Each P xs
below_all P xs i h below k x e = ⊎_elim
    (λ l. below k l x e)
    (λ past. absurd (some_not_none _ x (sym (slice_get_past xs k (omega arith))) e))
    (cases_lt k i)
