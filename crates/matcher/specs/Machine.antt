-- The search as a machine: what its levels still have to do.
use Rattle.std.specs.Prelude.{◌≡◌, ℕ, zero, suc, ◌+◌, ◌<◌, ◌≤◌, true, cond, ◌⊎◌, List, [], ◌∷◌, length, drop, Some, None, Option, MatchOption}
use Rattle.request.specs.declared.kinds.Pair.{Pair}
use Rattle.request.specs.Asked.{Asked}
use Rattle.request.specs.Places.{Preorder, opened}
use Rattle.host.specs.Reading.{is_the}
use Rattle.rewrite.specs.Meaning.{Offers, RewriterMeaning}
use Rattle.matcher.specs.declared.level.Level.{Level}
use Rattle.matcher.specs.declared.level.Mode.{Mode}
use Rattle.matcher.specs.declared.level.Mode.TheVariants.{Down, Hit, Miss}
use Rattle.matcher.specs.declared.level.Place.{Place}
use Rattle.matcher.specs.declared.level.Place.TheVariants.{Whole, Opened}
use Rattle.matcher.specs.declared.level.Trying.{Trying}
use Rattle.matcher.specs.Running.{Run, Out, reached, failed, over, on_out, Kids, offers_run, plain_run, run, kids_run}
use Rattle.matcher.specs.Search.{Asking, hit}
use Rattle.matcher.specs.Search as found
use Rattle.matcher.specs.Trees.{Pat, Pats, hole, ground, app, end, more, View, places, places_all, part, part_in, all_trees, view}

-- which kind of place a term is, by its tree; a term is matched whole with what it is bound to, or else with itself
abbrev pub PlaceIs : Asked → ℕ → Option Place → Type 0
PlaceIs R s None = part R s ≡ hole s None
PlaceIs R s (Some (Whole t)) = (part R s ≡ hole s (Some t)) ⊎ ((part R s ≡ ground s) × (t ≡ s))
PlaceIs R s (Some Opened) = part R s ≡ app s (all_trees (part_in R 63) (opened R.store s))

-- what a pair gives that leads to a term, with the state that it was found in
abbrev pub pair_hit : Option Pair → ℕ → Option found.Hit
pair_hit None st = None
pair_hit (Some p) st = Some (hit (p ∷ []) st)

-- a node, if the term owns it
abbrev pub owned_in : View → ℕ → Option ℕ → Option ℕ
owned_in V t None = None
owned_in V t (Some m) = cond (is_the (V.owner m) t) (Some m) None

-- what f gives first, of so many numbers
abbrev pub IsFirstOf : (ℕ → Option ℕ) → ℕ → Option ℕ → Type 0
IsFirstOf f n r = MatchOption r ((i : ℕ) → i < n → f i ≡ None) (λ m. (i : ℕ) × (i < n) × (f i ≡ Some m) × ((k : ℕ) → k < i → f k ≡ None))

-- the children's trees of an application that is opened
abbrev pub pats_in : Pat → Pats
pats_in (hole s o) = end
pats_in (ground t) = end
pats_in (app s ps) = ps

abbrev pub pats_of : Asked → ℕ → Pats
pats_of R s = pats_in (part R s)

abbrev pub drop_pats : ℕ → Pats → Pats
drop_pats zero ps = ps
drop_pats (suc n) end = end
drop_pats (suc n) (more p ps) = drop_pats n ps

abbrev pub tos_of : Option Offers → List ℕ
tos_of None = []
tos_of (Some o) = o.tos

module _ (R : Asked) (A : Asking) where
  abbrev pub runner : ℕ → Kids
  runner s bs st acc mk k = kids_run (view R.store) A (pats_of R s) bs st acc mk k

  -- what a level does when what it matches has failed: ask, or try the offers that are left
  abbrev pub phase_run : Level → Option Trying → (Out → Run) → List Pair → Run
  phase_run l None k acc = plain_run (view R.store) A (runner l.subpat) l.subpat l.blame l.before l.start k acc
  phase_run l (Some w) k acc = offers_run (view R.store) A (runner l.subpat) l.subpat w.offered.from (drop w.tried (tos_of (A.ask l.before l.blame l.subpat))) w.after l.start k acc

  -- and when its last child was reached: go on with the next
  abbrev pub children_run : Level → (Out → Run) → List Pair → ℕ → Run
  children_run l k acc st = kids_run (view R.store) A (drop_pats l.child (pats_of R l.subpat)) (drop l.child ((view R.store).below l.term)) st acc (phase_run l l.phase k) k

  abbrev pub resume : List Level → Out → Run
  resume [] o = over o
  resume (l ∷ ls) o = on_out (children_run l (resume ls)) (phase_run l l.phase (resume ls)) o

  -- the answer that the search will give from here, and the steps that it still takes; the top level comes first
  abbrev pub left : List Level → List Pair → Mode → ℕ → Run
  left ls acc (Down b s) st = run (view R.store) A (part R s) b st acc (resume ls)
  left ls acc Hit st = resume ls (reached acc st)
  left ls acc Miss st = resume ls (failed acc)

-- a term of the request that has at most 64 places
abbrev pub Finite : Asked → ℕ → Type 0
Finite R s = (ts : List ℕ) × Preorder R.store s ts × (length ts ≤ 64)

abbrev pub size : Asked → ℕ → ℕ
size R s = places (part R s)

-- the places below a level that are still to come, and how many pairs may lie there when they are done
abbrev pub owed : Asked → List Level → ℕ
owed R [] = 0
owed R (l ∷ ls) = places_all (drop_pats l.child (pats_of R l.subpat))

abbrev pub cap : Asked → List Level → ℕ
cap R [] = 64
cap R (l ∷ ls) = l.start + size R l.subpat

-- a level that has asked knows its answer
abbrev pub PhaseSound : RewriterMeaning → Asking → Level → Option Trying → Type 0
PhaseSound ρ A l None = Unit {0}
PhaseSound ρ A l (Some w) =
    (tos : List ℕ) × (A.ask l.before l.blame l.subpat ≡ Some (record { from = w.offered.from; tos = tos })) × (length tos ≡ w.offered.count) × (w.after ≡ A.next l.before l.blame l.subpat) × (ρ.known w.after ≡ true)

pub record LevelSound (R : Asked) (ρ : RewriterMeaning) (A : Asking) (l : Level) (ls : List Level) : Type 0 where
  pub finite : Finite R l.subpat
  pub opens : part R l.subpat ≡ app l.subpat (all_trees (part R) (opened R.store l.subpat))
  pub shallow : length ls + size R l.subpat ≤ 64
  pub room : l.start + size R l.subpat + owed R ls ≤ cap R ls
  pub marked : ρ.known l.before ≡ true
  pub phased : PhaseSound ρ A l l.phase

abbrev pub Stacked : Asked → RewriterMeaning → Asking → List Level → Type 0
Stacked R ρ A [] = Unit {0}
Stacked R ρ A (l ∷ ls) = LevelSound R ρ A l ls × Stacked R ρ A ls

abbrev pub ModeSound : Asked → RewriterMeaning → List Level → List Pair → ℕ → Mode → Type 0
ModeSound R ρ ls acc st (Down b s) = Finite R s × (length ls + size R s ≤ 64) × (length acc + size R s + owed R ls ≤ cap R ls) × (ρ.known st ≡ true)
ModeSound R ρ ls acc st Hit = (length acc + owed R ls ≤ cap R ls) × (ρ.known st ≡ true)
ModeSound R ρ ls acc st Miss = Unit {0}
