-- What one turn of the machine does.
use Rattle.std.specs.Prelude.{◌≡◌, ℕ, ◌+◌, Bool, false, cond, List, [], ◌∷◌, ◌++◌, reverse, length, Some, None, Option, ◌≢◌}
use Rattle.store.specs.Tables.{Tables, term_at, owner_of}
use Rattle.request.specs.declared.kinds.Pair.{Pair}
use Rattle.request.specs.Asked.{Asked}
use Rattle.host.specs.Meaning.{HostMeaning}
use Rattle.rewrite.specs.Meaning.{Offers, RewriterMeaning}
use Rattle.matcher.specs.declared.level.Level.{Level}
use Rattle.matcher.specs.declared.level.Taken.{Taken}
use Rattle.matcher.specs.declared.level.Mode.{Mode}
use Rattle.matcher.specs.declared.level.Mode.TheVariants.{Down, Hit, Miss}
use Rattle.matcher.specs.declared.machine.PatternMatcher.{PatternMatcher}
use Rattle.matcher.specs.Machine.{left, Stacked, ModeSound, Finite}
use Rattle.matcher.specs.Running.{Run, tick}
use Rattle.std.specs.Option.{option_map}
use Rattle.matcher.specs.Search.{Asking, asking, ends, hit}
use Rattle.matcher.specs.Search as found
use Rattle.matcher.specs.Trees.{fits_as, part, view}

-- the levels, the top one first
abbrev pub stack : PatternMatcher → List Level
stack M = reverse M.levels

-- a place that is matched whole, by a pair or not at all
abbrev pub settled_pairs : List Pair → Option Pair → List Pair
settled_pairs acc None = acc
settled_pairs acc (Some p) = acc ++ p ∷ []

abbrev pub settled_mode : {X : Type 0} → Option X → Mode
settled_mode None = Miss
settled_mode (Some x) = Hit

pub record Settles (M : PatternMatcher) (by : Option Pair) (M' : PatternMatcher) : Type 0 where
  pub levels : M'.levels ≡ M.levels
  pub pairs : M'.pairs ≡ settled_pairs M.pairs by
  pub mode : M'.mode ≡ settled_mode by

-- a level just opened
abbrev pub opened_level : ℕ → ℕ → ℕ → ℕ → Level
opened_level b s mark start = record { blame = b; subpat = s; term = b; child = 0; before = mark; phase = None; start = start }

pub record Opens (S : Tables) (M : PatternMatcher) (b s mark : ℕ) (M' : PatternMatcher) : Type 0 where
  pub levels : M'.levels ≡ M.levels ++ opened_level b s mark (length M.pairs) ∷ []
  pub pairs : M'.pairs ≡ M.pairs
  pub mode : M'.mode ≡ cond (fits_as (term_at S b) (term_at S s)) Hit Miss

-- the level with its next child
abbrev pub next_child : Level → Level
next_child l = record l { child = l.child + 1 }

-- after a child: which level is kept, and what comes next, by the next child's pattern term and term
abbrev pub kept_level : Level → Option ℕ → Option ℕ → List Level
kept_level l None b = []
kept_level l (Some s) None = l ∷ []
kept_level l (Some s) (Some b) = next_child l ∷ []

abbrev pub next_mode : Option ℕ → Option ℕ → Mode
next_mode None b = Hit
next_mode (Some s) None = Miss
next_mode (Some s) (Some b) = Down b s

pub record Advances (M : PatternMatcher) (l : Level) (s b : Option ℕ) (M' : PatternMatcher) : Type 0 where
  pub levels : M'.levels ≡ M.levels ++ kept_level l s b
  pub pairs : M'.pairs ≡ M.pairs
  pub mode : M'.mode ≡ next_mode s b

-- after a query: the level that goes through the offers, if there are any
abbrev pub asked_level : Level → Option Offers → ℕ → List Level
asked_level l None after = []
asked_level l (Some o) after = record l { phase = Some (record { after = after; offered = record { from = o.from; count = length o.tos }; tried = 0 }) } ∷ []

pub record Asks (M : PatternMatcher) (l : Level) (a : Option Offers) (after : ℕ) (M' : PatternMatcher) : Type 0 where
  pub levels : M'.levels ≡ M.levels ++ asked_level l a after
  pub pairs : M'.pairs ≡ M.pairs
  pub mode : M'.mode ≡ Miss

-- an offer that is taken
abbrev pub taken_by : Tables → ℕ → ℕ → Option ℕ → Option Taken
taken_by S s n None = None
taken_by S s n (Some c) = cond (fits_as (term_at S c) (term_at S s)) (Some (record { node = n; term = c })) None

abbrev pub taken : Tables → ℕ → Option ℕ → Option Taken
taken S s None = None
taken S s (Some n) = taken_by S s n (owner_of S n)

abbrev pub taken_level : Level → Option Taken → Level
taken_level l None = l
taken_level l (Some t) = record l { term = t.term; child = 0 }

abbrev pub taken_pairs : List Pair → ℕ → Option Taken → List Pair
taken_pairs acc n o = settled_pairs acc (option_map (λ t. ends n t.node) o)

pub record Takes (M : PatternMatcher) (l : Level) (n : ℕ) (o : Option Taken) (M' : PatternMatcher) : Type 0 where
  pub levels : M'.levels ≡ M.levels ++ taken_level l o ∷ []
  pub pairs : M'.pairs ≡ taken_pairs M.pairs n o
  pub mode : M'.mode ≡ settled_mode o

pub record MachineSound (R : Asked) (ρ : RewriterMeaning) (A : Asking) (M : PatternMatcher) (st : ℕ) : Type 0 where
  pub levels : Stacked R ρ A (stack M)
  pub here : ModeSound R ρ (stack M) M.pairs st M.mode

abbrev pub machine_left : Asked → Asking → PatternMatcher → ℕ → Run
machine_left R A M st = left R A (stack M) M.pairs M.mode st

pub record Stepped (R : Asked) (ρ : RewriterMeaning) (A : Asking) (before : Run) (M : PatternMatcher) (st : ℕ) : Type 0 where
  pub one_step : before ≡ tick (machine_left R A M st)
  pub sound : MachineSound R ρ A M st

-- the machine has stopped, with the last place reached or missed
pub record Stopped (M : PatternMatcher) (st : ℕ) (M' : PatternMatcher) (st' : ℕ) : Type 0 where
  pub empty : stack M ≡ []
  pub not_down : (b s : ℕ) → M.mode ≢ Down b s
  pub same : M' ≡ M
  pub state : st' ≡ st

-- a matcher about to enter a place
pub record Starts (b s : ℕ) (M : PatternMatcher) : Type 0 where
  pub levels : M.levels ≡ []
  pub pairs : M.pairs ≡ []
  pub mode : M.mode ≡ Down b s

-- the answer of a machine that has stopped
abbrev pub stopped_with : Mode → List Pair → ℕ → Option found.Hit
stopped_with (Down b s) acc st = None
stopped_with Hit acc st = Some (hit acc st)
stopped_with Miss acc st = None

-- a place reached counts only with a rewriter that is finished
abbrev pub success : Mode → Bool → Bool
success (Down b s) q = false
success Hit q = q
success Miss q = false

-- the state that a search leaves: at a miss the first
abbrev pub ends_in : RewriterMeaning → Option found.Hit → ℕ
ends_in ρ None = ρ.first
ends_in ρ (Some h) = cond (ρ.finished h.state) h.state ρ.first

-- What a search from a term to a pattern term finds, and the state that it leaves. A term with over 64 places is missed.
pub record Searched (R : Asked) (ρ : RewriterMeaning) (m : HostMeaning) (ns : List ℕ) (b s : ℕ) (r : Option (List Pair)) (st : ℕ) : Type 0 where
  pub finds : Finite R s → r ≡ found.found (view R.store) ρ m ns (part R s) b
  pub leaves : Finite R s → st ≡ ends_in ρ (found.seek (view R.store) (asking ρ m ns) (part R s) b ρ.first)
  pub too_large : (Finite R s → ⊥) → (r ≡ None) × (st ≡ ρ.first)
