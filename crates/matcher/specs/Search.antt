-- The search from a term to a part, by any rewriter, with its state.
use Rattle.std.specs.Prelude.{ℕ, cond, List, [], ◌∷◌, ◌++◌, Some, None, Option, ◌==◌}
use Rattle.request.specs.declared.kinds.Pair.{Pair}
use Rattle.host.specs.Meaning.{HostMeaning}
use Rattle.host.specs.Reading.{is_the}
use Rattle.rewrite.specs.Meaning.{Offers, RewriterMeaning, query}
use Rattle.matcher.specs.Trees.{Pat, Pats, hole, ground, app, end, more, View}

-- what the search asks: a query in a state, at a term and a pattern term, and where it leaves the rewriter
pub record Asking : Type 0 where
  pub ask : ℕ → ℕ → ℕ → Option Offers
  pub next : ℕ → ℕ → ℕ → ℕ

abbrev pub asking : RewriterMeaning → HostMeaning → List ℕ → Asking
asking ρ m ns = record { ask = λ st b s. ρ.ask st (query m ns b s); next = λ st b s. ρ.next st (query m ns b s) }

-- the pairs found, in order, and the state that the rewriter is left in
pub record Hit : Type 0 where
  pub pairs : List Pair
  pub state : ℕ

abbrev pub hit : List Pair → ℕ → Hit
hit xs st = record { pairs = xs; state = st }

abbrev pub behind : List Pair → Option Hit → Option Hit
behind xs None = None
behind xs (Some h) = Some (hit (xs ++ h.pairs) h.state)

-- one after the other: the second begins where the first left the rewriter
abbrev pub follow : Option Hit → (ℕ → Option Hit) → Option Hit
follow None f = None
follow (Some h) f = behind h.pairs (f h.state)

abbrev pub else_do : Option Hit → Option Hit → Option Hit
else_do None o = o
else_do (Some h) o = Some h

abbrev pub ends : ℕ → ℕ → Pair
ends n m = record { from = n; to = m }

-- the offers in their order, each from the state just after the query; what one gives stands behind its own pair
abbrev pub try_offers : (ℕ → ℕ → Option Hit) → ℕ → List ℕ → ℕ → Option Hit
try_offers sub n [] st = None
try_offers sub n (m ∷ ms) st = else_do (behind (ends n m ∷ []) (sub m st)) (try_offers sub n ms st)

abbrev pub by_offers : (ℕ → ℕ → Option Hit) → Option Offers → ℕ → Option Hit
by_offers sub None st = None
by_offers sub (Some o) st = try_offers sub o.from o.tos st

-- a node that is owned by t
abbrev pub if_owned : View → ℕ → ℕ → ℕ → Option Hit
if_owned V t m st = cond (is_the (V.owner m) t) (Some (hit [] st)) None

-- the children of a term that fits, by a search of them all
abbrev pub if_fits : View → (List ℕ → ℕ → Option Hit) → ℕ → Option ℕ → ℕ → Option Hit
if_fits V kr s None st = None
if_fits V kr s (Some c) st = cond (V.fits c s) (kr (V.below c) st) None

module _ (V : View) (A : Asking) where
  -- a term that is matched whole: by itself, or by one offer
  abbrev pub exact : ℕ → ℕ → ℕ → Option Hit
  exact t b st = cond (b == t) (Some (hit [] st)) (by_offers (if_owned V t) (A.ask st b t) (A.next st b t))

  abbrev pub to_bound : Option ℕ → ℕ → ℕ → Option Hit
  to_bound None b st = None
  to_bound (Some t) b st = exact t b st

  -- unrewritten first, and else by an offer of a query in the state before
  abbrev pub at_app : (List ℕ → ℕ → Option Hit) → ℕ → ℕ → ℕ → Option Hit
  at_app kr s b st = cond (b == s) (Some (hit [] st)) (else_do (if_fits V kr s (Some b) st) (by_offers (λ m st'. if_fits V kr s (V.owner m) st') (A.ask st b s) (A.next st b s)))

  abbrev mutual
    pub seek : Pat → ℕ → ℕ → Option Hit
    seek (hole s o) b st = cond (b == s) (Some (hit [] st)) (to_bound o b st)
    seek (ground t) b st = exact t b st
    seek (app s ps) b st = at_app (λ bs st'. seek_all ps bs st') s b st

    -- the children in order; when one fails, no earlier choice is revised
    pub seek_all : Pats → List ℕ → ℕ → Option Hit
    seek_all end bs st = Some (hit [] st)
    seek_all (more p ps) [] st = None
    seek_all (more p ps) (b ∷ bs) st = follow (seek p b st) (λ st'. seek_all ps bs st')

-- found only if the rewriter is finished then
abbrev pub if_finished : RewriterMeaning → Option Hit → Option (List Pair)
if_finished ρ None = None
if_finished ρ (Some h) = cond (ρ.finished h.state) (Some h.pairs) None

abbrev pub found : View → RewriterMeaning → HostMeaning → List ℕ → Pat → ℕ → Option (List Pair)
found V ρ m ns p b = if_finished ρ (seek V (asking ρ m ns) p b ρ.first)
