-- What the search achieves.
use Rattle.std.specs.Prelude.{◌≡◌, ℕ, ◌<◌, true, List, length, is_some, Some, Option}
use Rattle.std.specs.List.{All}
use Rattle.store.specs.Tables.{Tables}
use Rattle.request.specs.declared.kinds.Pair.{Pair}
use Rattle.request.specs.Asked.{Asked}
use Rattle.host.specs.Meaning.{HostMeaning, HostRules}
use Rattle.rewrite.specs.Meaning.{Offers, RewriterMeaning, OfferRules, Steady, query}
use Rattle.rewrite.specs.Kinds.{custom, force}
use Rattle.matcher.specs.Derivations.{Offered, Derives, First, Leads}
use Rattle.matcher.specs.Search.{found}
use Rattle.matcher.specs.Trees.{Pat, View, part, view}

-- what a rewriter that never moves answers
abbrev pub answers : RewriterMeaning → HostMeaning → List ℕ → ℕ → ℕ → Option Offers
answers ρ m ns b s = ρ.ask ρ.first (query m ns b s)

-- By a steady rewriter the search misses exactly if nothing is derived. Else it gives the pairs of the first derivation, and every other is later.
abbrev pub FindsFirst : Type 0
FindsFirst = (V : View) (ρ : RewriterMeaning) (m : HostMeaning) (ns : List ℕ) (p : Pat) (b : ℕ) → Steady ρ → First (Derives V (answers ρ m ns) p b) (found V ρ m ns p b)

-- σ offers every node that ρ offers, at every query
abbrev pub OffersMore : RewriterMeaning → RewriterMeaning → HostMeaning → List ℕ → Type 0
OffersMore ρ σ m ns = (b s i n k : ℕ) → Offered (answers ρ m ns b s) i n k → (j : ℕ) × (n' : ℕ) × Offered (answers σ m ns b s) j n' k

-- a steady rewriter that offers more finds wherever one that offers less finds
abbrev pub MoreFinds : Type 0
MoreFinds = (V : View) (ρ σ : RewriterMeaning) (m : HostMeaning) (ns : List ℕ) (p : Pat) (b : ℕ) → Steady ρ → Steady σ → OffersMore ρ σ m ns → is_some (found V ρ m ns p b) ≡ true → is_some (found V σ m ns p b) ≡ true

-- CustomEq over a steady rewriter finds wherever that one finds, at a host that keeps its rules and any term of a request
abbrev pub CustomFinds : Type 0
CustomFinds = (R : Asked) (ρ : RewriterMeaning) (m : HostMeaning) (ns : List ℕ) (s b : ℕ) → HostRules R.store m → Steady ρ → is_some (found (view R.store) ρ m ns (part R s) b) ≡ true → is_some (found (view R.store) (custom ρ) m ns (part R s) b) ≡ true

-- and ForceEq over the same wherever CustomEq does
abbrev pub ForceFinds : Type 0
ForceFinds = (R : Asked) (ρ : RewriterMeaning) (m : HostMeaning) (ns : List ℕ) (s b : ℕ) → HostRules R.store m → Steady ρ → is_some (found (view R.store) (custom ρ) m ns (part R s) b) ≡ true → is_some (found (view R.store) (force ρ) m ns (part R s) b) ≡ true

-- what any rewriter that keeps the offer rules finds, at a host that keeps its own and with set-aside nodes of the store, leads from the term to the part
abbrev pub FoundLeads : Type 0
FoundLeads = (S : Tables) (ρ : RewriterMeaning) (m : HostMeaning) (ns : List ℕ) (p : Pat) (b : ℕ) (xs : List Pair) → OfferRules S ρ → HostRules S m → All (λ n. n < length S.nodes) ns → found (view S) ρ m ns p b ≡ Some xs → Leads (view S) p b xs
