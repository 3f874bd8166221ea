-- Each rewriter keeps the offer rules, and which are steady. The impls cite these proofs as their law, and source may name only what stands in specs.
use Rattle.std.specs.Prelude.{◌≡◌, ℕ, suc, ◌+◌, ◌<◌, Bool, true, false, cond, not, ◌&&◌, ◌⊎◌, List, [], ◌∷◌, ◌++◌, length, drop, Some, None, Option, ◌==◌, nat_le, nat_lt, refl}
use Rattle.std.proofs.Common.{ap, subst, inl, inr, arith, length-drop}
use Rattle.std.specs.List.{slice_get, All, flat_map}
use Rattle.std.proofs.lemmas.List.Elements.{All-nil, All-cons, All-head, All-map, All-weaker, filter_passes}
use Rattle.std.proofs.lemmas.Option.{cond_some, same_Some, slice_get_within}
use Rattle.std.proofs.lemmas.Bool.{and_parts, ltb-true, leb-true, le-leb, cond_both}
use Rattle.store.specs.declared.term.ENode.{ENode}
use Rattle.store.specs.Tables.{Tables, is_the, owner_of, owner_in}
use Rattle.request.specs.declared.kinds.Pair.{Pair}
use Rattle.request.specs.Pairs.{is_proper}
use Rattle.host.specs.Kept.{the_owner}
use Rattle.rewrite.specs.declared.turn.Turn.{Turn}
use Rattle.rewrite.specs.Meaning.{Offers, Query, RewriterMeaning, OfferRules, Proper, Steady, Over}
use Rattle.rewrite.specs.Kinds.{leaves, one_offer, upcoming, basic_offer, basic_next, basic, both, ways, far_ends, complex, ends_as, live_ends, if_same, same_ends, own_or, own_next, custom, nodes_from, aside_as, aside_offer, below_or, force}

pub to_node : (S : Tables) (p : Pair) → is_proper S p ≡ true → p.to < length S.nodes
to_node S p e =
    let a = and_parts (not (p.from == p.to)) (nat_lt p.from (length S.nodes) && nat_lt p.to (length S.nodes)) e in
    ltb-true p.to (length S.nodes) (and_parts (nat_lt p.from (length S.nodes)) (nat_lt p.to (length S.nodes)) a.1).1

-- the pair whose turn it is: proper, and one of those that are left
record Due (S : Tables) (n m : ℕ) (u : Turn) : Type 0 where
  proper : is_proper S u.pair ≡ true
  early : u.number < n + m

due_as : (S : Tables) (n m : ℕ) (p : Pair) (later : Option Turn) (u : Turn) (b : Bool) → is_proper S p ≡ b → cond b (Some (record { number = n; pair = p })) later ≡ Some u → (later ≡ Some u → Due S (suc n) m u) → Due S n (suc m) u
due_as S n m p later u true f e on = subst (Due S n (suc m)) (same_Some _ u e) (record { proper = f; early = omega arith })
due_as S n m p later u false f e on = let d = on e in record { proper = d.proper; early = omega (arith, d.early) }

due : (S : Tables) (n : ℕ) (ps : List Pair) (u : Turn) → upcoming S n ps ≡ Some u → Due S n (length ps) u
due S n [] u e = cc
due S n (p ∷ ps) u e = due_as S n (length ps) p (upcoming S (suc n) ps) u (is_proper S p) refl e (λ f. due S (suc n) ps u f)

-- what an answer's offers keep
pub record Sound (S : Tables) (b : ℕ) (o : Offers) : Type 0 where
  pub owned : owner_of S o.from ≡ Some b
  pub there : All (λ n. n < length S.nodes) o.tos

one_sound : (S : Tables) (b : ℕ) (p : Pair) (o : Offers) → is_the (owner_of S p.from) b ≡ true → p.to < length S.nodes → one_offer p ≡ o → Sound S b o
one_sound S b p o e h same = subst (Sound S b) same (record { owned = the_owner (owner_of S p.from) b e; there = All-cons (λ n. n < length S.nodes) p.to [] h (All-nil (λ n. n < length S.nodes)) })

basic_sound : (S : Tables) (b : ℕ) (r : Option Turn) (o : Offers) → ((u : Turn) → r ≡ Some u → is_proper S u.pair ≡ true) → basic_offer S b r ≡ Some o → Sound S b o × (0 < length o.tos)
basic_sound S b None o h e = cc
basic_sound S b (Some u) o h e =
    let c = cond_some (is_the (owner_of S u.pair.from) b) (one_offer u.pair) o e in
    (one_sound S b u.pair o c.0 (to_node S u.pair (h u refl)) c.1, subst (λ x. 0 < length x.tos) c.1 (omega arith))

basic_known : (S : Tables) (b s n : ℕ) (r : Option Turn) → ((u : Turn) → r ≡ Some u → u.number < n) → nat_le s n ≡ true → nat_le (basic_next S b s r) n ≡ true
basic_known S b s n None h e = e
basic_known S b s n (Some u) h e = cond_both (is_the (owner_of S u.pair.from) b) (suc u.number) s (λ k. nat_le k n ≡ true) (λ _. le-leb (suc u.number) n (h u refl)) (λ _. e)

pub basic_rules : (ps : List Pair) (S : Tables) → OfferRules S (basic ps S)
basic_rules ps S = record {
  first_known = le-leb 0 (length ps) (omega arith);
  next_known = λ s q e. basic_known S q.blame s (length ps) (upcoming S s (drop s ps)) (λ u f. omega (arith, (due S s (drop s ps) u f).early, length-drop s ps, leb-true s (length ps) e)) e;
  from_owned = λ s q o pr e. (basic_sound S q.blame (upcoming S s (drop s ps)) o (λ u f. (due S s (drop s ps) u f).proper) e).0.owned;
  some_offer = λ s q o e. (basic_sound S q.blame (upcoming S s (drop s ps)) o (λ u f. (due S s (drop s ps) u f).proper) e).1;
  to_there = λ s q o pr e. (basic_sound S q.blame (upcoming S s (drop s ps)) o (λ u f. (due S s (drop s ps) u f).proper) e).0.there;
}

-- every pair that ComplexEq reads at b leaves from a node of b
all_ways : (S : Tables) (ps : List Pair) (b : ℕ) → All (λ x. leaves S x b ≡ true) (ways S ps b)
all_ways S ps b = filter_passes (λ p. leaves S p b) (flat_map both ps)

far_sound : (S : Tables) (b : ℕ) (ps : List Pair) (o : Offers) → All (λ x. leaves S x b ≡ true) ps → far_ends ps ≡ Some o → Sound S b o × (0 < length o.tos)
far_sound S b [] o all e = cc
far_sound S b (p ∷ ps) o all e =
    let same = same_Some _ o e in (
      subst (Sound S b) same (record {
        owned = the_owner (owner_of S p.from) b (and_parts (is_proper S p) (is_the (owner_of S p.from) b) (All-head (λ x. leaves S x b ≡ true) p ps all)).1;
        there = All-map (λ n. n < length S.nodes) (λ x. x.to) (p ∷ ps) (All-weaker (λ x. leaves S x b ≡ true) (λ x. x.to < length S.nodes) (λ x l. to_node S x (and_parts (is_proper S x) (is_the (owner_of S x.from) b) l).0) (p ∷ ps) all);
      }),
      subst (λ x. 0 < length x.tos) same (omega arith),
    )

pub complex_rules : (own booked : List Pair) (S : Tables) → OfferRules S (complex own booked S)
complex_rules own booked S = record {
  first_known = refl;
  next_known = λ s q e. e;
  from_owned = λ s q o pr e. (far_sound S q.blame (ways S (own ++ booked) q.blame) o (all_ways S (own ++ booked) q.blame) e).0.owned;
  some_offer = λ s q o e. (far_sound S q.blame (ways S (own ++ booked) q.blame) o (all_ways S (own ++ booked) q.blame) e).1;
  to_there = λ s q o pr e. (far_sound S q.blame (ways S (own ++ booked) q.blame) o (all_ways S (own ++ booked) q.blame) e).0.there;
}

pub complex_steady : (own booked : List Pair) (S : Tables) → Steady (complex own booked S)
complex_steady own booked S = record { stays = λ s q. refl; done = λ s. refl; alike = λ s q ps. refl }

-- a layer's own pair joins the live nodes of the term and of the pattern term
abbrev Joins : Query → Option Pair → Type 0
Joins q r = (p : Pair) → r ≡ Some p → (q.host.live q.blame ≡ Some p.from) × (q.host.live q.subpat ≡ Some p.to)

ends_join : (a b : Option ℕ) (p : Pair) → ends_as a b ≡ Some p → (a ≡ Some p.from) × (b ≡ Some p.to)
ends_join None b p e = cc
ends_join (Some n) None p e = cc
ends_join (Some n) (Some m) p e = let same = same_Some _ p e in (ap (λ x. Some x.from) same, ap (λ x. Some x.to) same)

live_join : (q : Query) → Joins q (live_ends q)
live_join q p e = ends_join (q.host.live q.blame) (q.host.live q.subpat) p e

same_join : (q : Query) (r : Option Pair) → Joins q r → Joins q (if_same q.host r)
same_join q None h p e = cc
same_join q (Some x) h p e = let c = cond_some (q.host.loose x.from x.to) x p e in h p (ap Some c.1)

owner_inside : (S : Tables) (n t : ℕ) (o : Option ENode) → slice_get S.nodes n ≡ o → owner_in o ≡ Some t → n < length S.nodes
owner_inside S n t None e f = cc
owner_inside S n t (Some x) e f = slice_get_within S.nodes n x e

own_sound : (S : Tables) (q : Query) (r : Option Pair) (below : Option Offers) (o : Offers) → Proper S q → Joins q r → (below ≡ Some o → Sound S q.blame o) → own_or r below ≡ Some o → Sound S q.blame o
own_sound S q None below o pr h low e = low e
own_sound S q (Some p) below o pr h low e =
    let j = h p refl in
    let rules = pr.host_ruled in
    subst (Sound S q.blame) (same_Some _ o e) (record {
      owned = rules.live_owned q.blame p.from j.0;
      there = All-cons (λ n. n < length S.nodes) p.to [] (owner_inside S p.to q.subpat (slice_get S.nodes p.to) refl (rules.live_owned q.subpat p.to j.1)) (All-nil (λ n. n < length S.nodes));
    })

own_some : (r : Option Pair) (below : Option Offers) (o : Offers) → (below ≡ Some o → 0 < length o.tos) → own_or r below ≡ Some o → 0 < length o.tos
own_some None below o low e = low e
own_some (Some p) below o low e = subst (λ x. 0 < length x.tos) (same_Some _ o e) (omega arith)

own_known : (ρ : RewriterMeaning) (r : Option Pair) (s n : ℕ) → ρ.known s ≡ true → ρ.known n ≡ true → ρ.known (own_next r s n) ≡ true
own_known ρ None s n e f = f
own_known ρ (Some p) s n e f = e

own_stays : (r : Option Pair) (s n : ℕ) → n ≡ s → own_next r s n ≡ s
own_stays None s n e = e
own_stays (Some p) s n e = refl

own_moved : (r : Option Pair) (s n : ℕ) → (own_next r s n ≡ s) ⊎ (own_next r s n ≡ n)
own_moved None s n = inr refl
own_moved (Some p) s n = inl refl

module _ (S : Tables) (ρ : RewriterMeaning) (below : OfferRules S ρ) where
  ask_sound : (s : ℕ) (q : Query) (o : Offers) → Proper S q → ρ.ask s q ≡ Some o → Sound S q.blame o
  ask_sound s q o pr e = record { owned = below.from_owned s q o pr e; there = below.to_there s q o pr e }

  pub custom_rules : OfferRules S (custom ρ)
  custom_rules = record {
    first_known = below.first_known;
    next_known = λ s q e. own_known ρ (same_ends q) s (ρ.next s q) e (below.next_known s q e);
    from_owned = λ s q o pr e. (own_sound S q (same_ends q) (ρ.ask s q) o pr (same_join q (live_ends q) (live_join q)) (ask_sound s q o pr) e).owned;
    some_offer = λ s q o e. own_some (same_ends q) (ρ.ask s q) o (below.some_offer s q o) e;
    to_there = λ s q o pr e. (own_sound S q (same_ends q) (ρ.ask s q) o pr (same_join q (live_ends q) (live_join q)) (ask_sound s q o pr) e).there;
  }

  nodes_sound : (q : Query) (n : ℕ) (ns : List ℕ) (o : Offers) → owner_of S n ≡ Some q.blame → All (λ m. m < length S.nodes) ns → nodes_from n ns ≡ Some o → Sound S q.blame o × (0 < length o.tos)
  nodes_sound q n [] o owned all e = cc
  nodes_sound q n (a ∷ ns) o owned all e =
      let same = same_Some _ o e in
      (subst (Sound S q.blame) same (record { owned = owned; there = all }), subst (λ x. 0 < length x.tos) same (omega arith))

  aside_sound : (q : Query) (a b : Option ℕ) (o : Offers) → Proper S q → q.host.live q.blame ≡ a → aside_as a b q.aside ≡ Some o → Sound S q.blame o × (0 < length o.tos)
  aside_sound q None b o pr l e = cc
  aside_sound q (Some n) None o pr l e = nodes_sound q n q.aside o (pr.host_ruled.live_owned q.blame n l) pr.aside_there e
  aside_sound q (Some n) (Some m) o pr l e = cc

  nodes_some : (n : ℕ) (ns : List ℕ) (o : Offers) → nodes_from n ns ≡ Some o → 0 < length o.tos
  nodes_some n [] o e = cc
  nodes_some n (a ∷ ns) o e = subst (λ x. 0 < length x.tos) (same_Some _ o e) (omega arith)

  aside_some : (a b : Option ℕ) (ns : List ℕ) (o : Offers) → aside_as a b ns ≡ Some o → 0 < length o.tos
  aside_some None b ns o e = cc
  aside_some (Some n) None ns o e = nodes_some n ns o e
  aside_some (Some n) (Some m) ns o e = cc

  or_sound : (a b : Option Offers) (o : Offers) (P : Offers → Type 0) → (a ≡ Some o → P o) → (b ≡ Some o → P o) → below_or a b ≡ Some o → P o
  or_sound None b o P f g e = g e
  or_sound (Some x) b o P f g e = f e

  force_sound : (s : ℕ) (q : Query) (o : Offers) → Proper S q → (force ρ).ask s q ≡ Some o → Sound S q.blame o
  force_sound s q o pr e = own_sound S q (live_ends q) (below_or (ρ.ask s q) (aside_offer q)) o pr (live_join q)
      (or_sound (ρ.ask s q) (aside_offer q) o (Sound S q.blame) (ask_sound s q o pr) (λ f. (aside_sound q (q.host.live q.blame) (q.host.live q.subpat) o pr refl f).0)) e

  pub force_rules : OfferRules S (force ρ)
  force_rules = record {
    first_known = below.first_known;
    next_known = λ s q e. own_known ρ (live_ends q) s (ρ.next s q) e (below.next_known s q e);
    from_owned = λ s q o pr e. (force_sound s q o pr e).owned;
    some_offer = λ s q o e. own_some (live_ends q) (below_or (ρ.ask s q) (aside_offer q)) o
        (or_sound (ρ.ask s q) (aside_offer q) o (λ x. 0 < length x.tos) (below.some_offer s q o) (aside_some (q.host.live q.blame) (q.host.live q.subpat) q.aside o)) e;
    to_there = λ s q o pr e. (force_sound s q o pr e).there;
  }

module _ (ρ : RewriterMeaning) where
  pub custom_steady : Steady ρ → Steady (custom ρ)
  custom_steady h = record {
    stays = λ s q. own_stays (same_ends q) s (ρ.next s q) (h.stays s q);
    done = h.done;
    alike = λ s q ps. ap (own_or (same_ends q)) (h.alike s q ps);
  }

  pub force_steady : Steady ρ → Steady (force ρ)
  force_steady h = record {
    stays = λ s q. own_stays (live_ends q) s (ρ.next s q) (h.stays s q);
    done = h.done;
    alike = λ s q ps. ap (λ o. own_or (live_ends q) (below_or o (aside_offer q))) (h.alike s q ps);
  }

  pub custom_over : Over ρ (custom ρ)
  custom_over = record { first_below = refl; known_below = λ s. refl; finished_below = λ s. refl; moved_below = λ s q. own_moved (same_ends q) s (ρ.next s q) }

  pub force_over : Over ρ (force ρ)
  force_over = record { first_below = refl; known_below = λ s. refl; finished_below = λ s. refl; moved_below = λ s q. own_moved (live_ends q) s (ρ.next s q) }
