-- What a rewriter means, and the rules that each rewriter keeps.
use Rattle.std.specs.Prelude.{◌≡◌, ℕ, ◌<◌, Bool, true, cond, ◌⊎◌, List, length, Some, None, Option}
use Rattle.std.specs.List.{slice_get, All}
use Rattle.store.specs.Tables.{Tables, tables, owner_of}
use Rattle.request.specs.declared.kinds.Pair.{Pair}
use Rattle.host.specs.Meaning.{HostMeaning, HostRules, with_listed}
use Rattle.rewrite.specs.declared.coupling.Coupling.{Coupling}
use Rattle.rewrite.specs.declared.offered.Offered.{Offered}
use Rattle.rewrite.specs.declared.query.Query as declared

-- the node to rewrite from, and those offered to rewrite to, in their order
pub record Offers : Type 0 where
  pub from : ℕ
  pub tos : List ℕ

-- a query at a term and a pattern term, over a host and the nodes set aside
pub record Query : Type 0 where
  pub host : HostMeaning
  pub aside : List ℕ
  pub blame : ℕ
  pub subpat : ℕ

abbrev pub query : HostMeaning → List ℕ → ℕ → ℕ → Query
query m ns b s = record { host = m; aside = ns; blame = b; subpat = s }

-- the query that the code asks, by what its host means
abbrev pub meant : {H : Type 0} → (H → Tables → HostMeaning) → declared.Query H → Query
meant meaning q = query (meaning q.host.now (tables q.store)) q.aside.now q.blame q.subpat

-- A rewriter's states are named by its marks, which are numbers: the first; which numbers mark a state; in which it is finished; what a
-- query answers there, and in which state it leaves the rewriter.
pub record RewriterMeaning : Type 0 where
  pub first : ℕ
  pub known : ℕ → Bool
  pub finished : ℕ → Bool
  pub ask : ℕ → Query → Option Offers
  pub next : ℕ → Query → ℕ
  pub coupling : Coupling
  pub forbids : Bool

-- going back: to the state that is marked so, else to the first
abbrev pub returned : RewriterMeaning → ℕ → ℕ
returned ρ m = cond (ρ.known m) m ρ.first

-- an answer by its number of offers, and an offer by its number
abbrev pub counted : Option Offers → Option Offered
counted None = None
counted (Some o) = Some (record { from = o.from; count = length o.tos })

abbrev pub offer_at : Option Offers → ℕ → Option ℕ
offer_at None i = None
offer_at (Some o) i = slice_get o.tos i

-- a host that keeps its rules, and set-aside nodes that are there
pub record Proper (S : Tables) (q : Query) : Type 0 where
  pub host_ruled : HostRules S q.host
  pub aside_there : All (λ n. n < length S.nodes) q.aside

pub record OfferRules (S : Tables) (ρ : RewriterMeaning) : Type 0 where
  pub first_known : ρ.known ρ.first ≡ true
  pub next_known : (s : ℕ) (q : Query) → ρ.known s ≡ true → ρ.known (ρ.next s q) ≡ true
  pub from_owned : (s : ℕ) (q : Query) (o : Offers) → Proper S q → ρ.ask s q ≡ Some o → owner_of S o.from ≡ Some q.blame
  pub some_offer : (s : ℕ) (q : Query) (o : Offers) → ρ.ask s q ≡ Some o → 0 < length o.tos
  pub to_there : (s : ℕ) (q : Query) (o : Offers) → Proper S q → ρ.ask s q ≡ Some o → All (λ n. n < length S.nodes) o.tos

-- the same query after equalities were made at the host
abbrev pub relisted : Query → List Pair → Query
relisted q ps = record { host = with_listed q.host ps; aside = q.aside; blame = q.blame; subpat = q.subpat }

-- never moves, is always finished, and offers alike after any making
pub record Steady (ρ : RewriterMeaning) : Type 0 where
  pub stays : (s : ℕ) (q : Query) → ρ.next s q ≡ s
  pub done : (s : ℕ) → ρ.finished s ≡ true
  pub alike : (s : ℕ) (q : Query) (ps : List Pair) → ρ.ask s (relisted q ps) ≡ ρ.ask s q

-- σ stands over ρ: the same states, finished as ρ is, and moved at a query only by handing it down
pub record Over (ρ σ : RewriterMeaning) : Type 0 where
  pub first_below : σ.first ≡ ρ.first
  pub known_below : (s : ℕ) → σ.known s ≡ ρ.known s
  pub finished_below : (s : ℕ) → σ.finished s ≡ ρ.finished s
  pub moved_below : (s : ℕ) (q : Query) → (σ.next s q ≡ s) ⊎ (σ.next s q ≡ ρ.next s q)
