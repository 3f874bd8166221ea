-- What a search does at a setting, for hosts and rewriters of any two types.
use Rattle.std.specs.Prelude.{◌≡◌, ℕ, ◌≤◌, Bool, true, false, List, ◌∷◌, length, Option}
use Rattle.store.specs.Tables.{Tables, tables}
use Rattle.request.specs.declared.kinds.Pair.{Pair}
use Rattle.request.specs.Asked.{asked}
use Rattle.host.specs.Meaning.{HostMeaning}
use Rattle.rewrite.specs.declared.query.Query.{Query}
use Rattle.rewrite.specs.Meaning.{Offers, RewriterMeaning, meant, returned, offer_at}
use Rattle.matcher.specs.declared.level.Level.{Level}
use Rattle.matcher.specs.declared.level.Mode.{Mode}
use Rattle.matcher.specs.declared.level.Mode.TheVariants.{Hit, Miss}
use Rattle.matcher.specs.declared.machine.PatternMatcher.{PatternMatcher}
use Rattle.matcher.specs.declared.setting.Setting.{Setting}
use Rattle.matcher.specs.Machine.{owned_in, Stacked, left}
use Rattle.matcher.specs.Running.{Run}
use Rattle.matcher.specs.Search as found
use Rattle.matcher.specs.Search.{Asking, asking, if_owned, by_offers}
use Rattle.matcher.specs.Stepping.{stack, Asks, MachineSound, Stepped, Stopped, machine_left, stopped_with, Searched}
use Rattle.matcher.specs.Trees.{view}

abbrev pub tables_at : {H : Type 0} → Setting H → Tables
tables_at t = tables t.request.store

-- the query that is asked here, at a term and a pattern term
abbrev pub query_at : {H : Type 0} → Setting H → ℕ → ℕ → Query H
query_at t b s = record { store = t.request.store; host = t.host; aside = t.aside; blame = b; subpat = s }

-- what a rewriter answers to a query in a state, and an offer of it that the pattern term owns
module _ {H : Type 0} (meaning : H → Tables → HostMeaning) (means : Tables → RewriterMeaning) (q : Query H) (st : ℕ) where
  abbrev pub answered : Option Offers
  answered = (means (tables q.store)).ask st (meant meaning q)

  abbrev pub owned_at : ℕ → Option ℕ
  owned_at i = owned_in (view (tables q.store)) q.subpat (offer_at answered i)

  -- what is found by these offers, with the rewriter left in a state
  abbrev pub found_owned : ℕ → Option found.Hit
  found_owned st' = by_offers (if_owned (view (tables q.store)) q.subpat) answered st'

module _ {H : Type 0} (meaning : H → Tables → HostMeaning) (t : Setting H) where
  -- what the search asks of a rewriter with this meaning
  abbrev pub asking_at : RewriterMeaning → Asking
  asking_at ρ = asking ρ (meaning t.host.now (tables_at t)) t.aside.now

  abbrev pub SearchedAt : (Tables → RewriterMeaning) → ℕ → ℕ → Option (List Pair) → ℕ → Type 0
  SearchedAt means b s r st = Searched (asked t.request) (means (tables_at t)) (meaning t.host.now (tables_at t)) t.aside.now b s r st

-- A rewriter goes by what it means and by the state that it is in.
module _ {H R : Type 0} (meaning : H → Tables → HostMeaning) (means : R → Tables → RewriterMeaning) (state : R → ℕ) (t : Setting H) where
  abbrev pub meant_by : R → RewriterMeaning
  meant_by r = means r (tables_at t)

  abbrev pub Sound : PatternMatcher → R → Type 0
  Sound M r = MachineSound (asked t.request) (meant_by r) (asking_at meaning t (meant_by r)) M (state r)

  -- the same, with the top level taken off
  abbrev pub StackedOff : Level → PatternMatcher → R → Type 0
  StackedOff l M r = Stacked (asked t.request) (meant_by r) (asking_at meaning t (meant_by r)) (l ∷ stack M)

  -- it may have moved, and means the same
  abbrev pub Stays : R → R → Type 0
  Stays r r' = means r' ≡ means r

  -- asked from the state before the level
  pub record AsksAt (M : PatternMatcher) (l : Level) (r : R) (M' : PatternMatcher) (r' : R) : Type 0 where
    pub asks : Asks M l (answered meaning (means r) (query_at t l.blame l.subpat) (returned (meant_by r) l.before)) (state r') M'
    pub moves : state r' ≡ (meant_by r).next (returned (meant_by r) l.before) (meant meaning (query_at t l.blame l.subpat))
    pub same : Stays r r'

  -- what a machine has still to do with a rewriter that means what r means
  abbrev pub left_at : R → PatternMatcher → R → Run
  left_at r M r' = machine_left (asked t.request) (asking_at meaning t (meant_by r)) M (state r')

  -- one turn, from a machine and a rewriter to others
  pub record Steps (M : PatternMatcher) (r : R) (M' : PatternMatcher) (r' : R) : Type 0 where
    pub steps : Stepped (asked t.request) (meant_by r) (asking_at meaning t (meant_by r)) (left_at r M r) M' (state r')
    pub same : Stays r r'

  -- the same at a miss, where the top level has been taken off
  pub record StepsOff (l : Level) (M : PatternMatcher) (r : R) (M' : PatternMatcher) (r' : R) : Type 0 where
    pub steps : Stepped (asked t.request) (meant_by r) (asking_at meaning t (meant_by r)) (left (asked t.request) (asking_at meaning t (meant_by r)) (l ∷ stack M) M.pairs Miss (state r)) M' (state r')
    pub same : Stays r r'

  -- nothing is left to do, and the rewriter is as it was
  pub record Stops (M : PatternMatcher) (r : R) (M' : PatternMatcher) (r' : R) : Type 0 where
    pub stopped : Stopped M (state r) M' (state r')
    pub same : Stays r r'

  abbrev pub Turned : PatternMatcher → R → Bool → PatternMatcher → R → Type 0
  Turned M r true M' r' = Steps M r M' r'
  Turned M r false M' r' = Stops M r M' r'

  -- on its way: sound, and with the answer still to give that it began with
  pub record Going (M : PatternMatcher) (r : R) (M' : PatternMatcher) (r' : R) : Type 0 where
    pub sound : MachineSound (asked t.request) (meant_by r) (asking_at meaning t (meant_by r)) M' (state r')
    pub answer : (left_at r M r).answer ≡ (left_at r M' r').answer
    pub same : Stays r r'

  -- run to its end, it gives the answer that it had to give, of at most 64 pairs
  pub record Ends (M : PatternMatcher) (r : R) (M' : PatternMatcher) (r' : R) : Type 0 where
    pub ends : (left_at r M r).answer ≡ stopped_with M'.mode M'.pairs (state r')
    pub few : M'.mode ≡ Hit → length M'.pairs ≤ 64
    pub same : Stays r r'
