-- What a rewriter is asked, and what it offers then. Assumes nothing.
use Rattle.std.specs.Prelude.{ℕ, List, [], vec_items, Option}
use Rattle.std.specs.List.{filter_map, range_with_len}
use Rattle.host.specs.Meaning.{HostMeaning}
use Rattle.rewrite.specs.Meaning as rewrite
use Rattle.rewrite.specs.Meaning.{RewriterMeaning, query, offer_at}
use Rattle.explain.specs.declared.offers.Offers.{Offers}
use Rattle.explain.specs.declared.text.Query.{Query}

abbrev pub listed : Offers → rewrite.Offers
listed o = record { from = o.from; tos = vec_items o.tos }

-- with no node set aside
abbrev pub asked : HostMeaning → Query → rewrite.Query
asked m q = query m [] q.term q.pattern_term

-- from its first state
abbrev pub first_offers : RewriterMeaning → rewrite.Query → Option rewrite.Offers
first_offers ρ q = ρ.ask ρ.first q

-- the offers of an answer whose numbers are below this one
abbrev pub first_of : Option rewrite.Offers → ℕ → List ℕ
first_of answer count = filter_map (offer_at answer) (range_with_len 0 count)
