-- The four rewriters.
use Rattle.std.specs.Prelude.{◌≡◌, ℕ, suc, ◌+◌, Bool, true, false, cond, ◌&&◌, List, [], ◌∷◌, ◌++◌, map, length, drop, Some, None, Option, ◌==◌, nat_le}
use Rattle.std.specs.List.{filter, flat_map, slice_get}
use Rattle.std.specs.declared.ops.ControlFlow.{ControlFlow}
use Rattle.std.specs.declared.ops.ControlFlow.TheVariants.{Continue, Break}
use Rattle.store.specs.Tables.{Tables, is_the, owner_of}
use Rattle.request.specs.declared.kinds.Pair.{Pair}
use Rattle.request.specs.Pairs.{is_proper}
use Rattle.host.specs.Meaning.{HostMeaning}
use Rattle.rewrite.specs.declared.coupling.Coupling.TheVariants.{Exact, SwappedEqs, MissingEqs, AddedEqs}
use Rattle.rewrite.specs.declared.turn.Turn.{Turn}
use Rattle.rewrite.specs.Meaning.{Offers, Query, RewriterMeaning}

-- a proper pair that leaves from a node of term b; one that is not proper is passed over
abbrev pub leaves : Tables → Pair → ℕ → Bool
leaves S p b = is_proper S p && is_the (owner_of S p.from) b

abbrev pub one_offer : Pair → Offers
one_offer p = record { from = p.from; tos = p.to ∷ [] }

-- BasicEq: its state is the number of logged pairs that it has passed. The next proper pair, with its number:
abbrev pub upcoming : Tables → ℕ → List Pair → Option Turn
upcoming S n [] = None
upcoming S n (p ∷ ps) = cond (is_proper S p) (Some (record { number = n; pair = p })) (upcoming S (suc n) ps)

-- if it leaves from a node of b, it is offered and passed
abbrev pub basic_offer : Tables → ℕ → Option Turn → Option Offers
basic_offer S b None = None
basic_offer S b (Some u) = cond (is_the (owner_of S u.pair.from) b) (Some (one_offer u.pair)) None

abbrev pub basic_next : Tables → ℕ → ℕ → Option Turn → ℕ
basic_next S b s None = s
basic_next S b s (Some u) = cond (is_the (owner_of S u.pair.from) b) (suc u.number) s

abbrev pub is_last : Option Turn → Bool
is_last None = true
is_last (Some u) = false

abbrev pub basic : List Pair → Tables → RewriterMeaning
basic ps S = record {
  first = 0;
  known = λ s. nat_le s (length ps);
  finished = λ s. is_last (upcoming S s (drop s ps));
  ask = λ s q. basic_offer S q.blame (upcoming S s (drop s ps));
  next = λ s q. basic_next S q.blame s (upcoming S s (drop s ps));
  coupling = Exact;
  forbids = false;
}

-- ComplexEq reads each pair both ways, its own side first
abbrev pub turned : Pair → Pair
turned p = record { from = p.to; to = p.from }

abbrev pub both : Pair → List Pair
both p = p ∷ turned p ∷ []

abbrev pub ways : Tables → List Pair → ℕ → List Pair
ways S ps b = filter (λ p. leaves S p b) (flat_map both ps)

-- the one way of a pair as it stands, if it leaves from a node of b
abbrev pub one_way : Tables → Pair → ℕ → List Pair
one_way S p b = cond (leaves S p b) (p ∷ []) []

-- going over ways to the one with number n: there it breaks off; else so many are left behind them
abbrev pub Reaches : List Pair → ℕ → ControlFlow Pair ℕ → Type 0
Reaches ws n (Continue left) = n ≡ length ws + left
Reaches ws n (Break w) = slice_get ws n ≡ Some w

-- the far ends in order, with the first near end
abbrev pub far_ends : List Pair → Option Offers
far_ends [] = None
far_ends (p ∷ ps) = Some (record { from = p.from; tos = map (λ x. x.to) (p ∷ ps) })

abbrev pub complex : List Pair → List Pair → Tables → RewriterMeaning
complex own booked S = record {
  first = 0;
  known = λ s. (s == 0);
  finished = λ s. true;
  ask = λ s q. far_ends (ways S (own ++ booked) q.blame);
  next = λ s q. s;
  coupling = SwappedEqs;
  forbids = false;
}

-- the live nodes of the term and of the pattern term
abbrev pub ends_as : Option ℕ → Option ℕ → Option Pair
ends_as None to = None
ends_as (Some n) None = None
ends_as (Some n) (Some m) = Some (record { from = n; to = m })

abbrev pub live_ends : Query → Option Pair
live_ends q = ends_as (q.host.live q.blame) (q.host.live q.subpat)

-- those that one loose class holds
abbrev pub if_same : HostMeaning → Option Pair → Option Pair
if_same m None = None
if_same m (Some p) = cond (m.loose p.from p.to) (Some p) None

abbrev pub same_ends : Query → Option Pair
same_ends q = if_same q.host (live_ends q)

-- a layer offers its own pair, and else hands the query down
abbrev pub own_or : Option Pair → Option Offers → Option Offers
own_or None below = below
own_or (Some p) below = Some (one_offer p)

abbrev pub own_next : Option Pair → ℕ → ℕ → ℕ
own_next None s below = below
own_next (Some p) s below = s

abbrev pub custom : RewriterMeaning → RewriterMeaning
custom ρ = record {
  first = ρ.first;
  known = ρ.known;
  finished = ρ.finished;
  ask = λ s q. own_or (same_ends q) (ρ.ask s q);
  next = λ s q. own_next (same_ends q) s (ρ.next s q);
  coupling = MissingEqs;
  forbids = false;
}

-- the set-aside nodes, if the term is live and the pattern term is not
abbrev pub nodes_from : ℕ → List ℕ → Option Offers
nodes_from n [] = None
nodes_from n (a ∷ ns) = Some (record { from = n; tos = a ∷ ns })

abbrev pub aside_as : Option ℕ → Option ℕ → List ℕ → Option Offers
aside_as None to ns = None
aside_as (Some n) None ns = nodes_from n ns
aside_as (Some n) (Some m) ns = None

abbrev pub from_of : Option Offers → Option ℕ
from_of None = None
from_of (Some o) = Some o.from

abbrev pub aside_offer : Query → Option Offers
aside_offer q = aside_as (q.host.live q.blame) (q.host.live q.subpat) q.aside

-- what is below, and the set-aside nodes only if that offers nothing
abbrev pub below_or : Option Offers → Option Offers → Option Offers
below_or None o = o
below_or (Some b) o = Some b

abbrev pub force : RewriterMeaning → RewriterMeaning
force ρ = record {
  first = ρ.first;
  known = ρ.known;
  finished = ρ.finished;
  ask = λ s q. own_or (live_ends q) (below_or (ρ.ask s q) (aside_offer q));
  next = λ s q. own_next (live_ends q) s (ρ.next s q);
  coupling = AddedEqs;
  forbids = true;
}
