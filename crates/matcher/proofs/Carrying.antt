-- Derivations carried over to a rewriter that offers more.
use Rattle.std.proofs.Common.{◌≡◌, ℕ, zero, suc, Bool, true, false, cond, List, [], ◌∷◌, is_some, Some, None, Option, sym, refl, ap, subst, arith}
use Rattle.std.proofs.lemmas.Bool.{true≢false}
use Rattle.store.proofs.Decided.{some_not_none, same_some}
use Rattle.store.specs.declared.term.HasVar.{HasVar}
use Rattle.store.specs.declared.term.HasVar.TheVariants.{No, Yes, Unknown}
use Rattle.store.specs.declared.term.Term.{Term}
use Rattle.store.specs.declared.term.TermKind.{TermKind}
use Rattle.store.specs.declared.term.TermKind.TheVariants.{Var, App, Quant}
use Rattle.store.specs.Tables.{Tables, term_at, kids, recorded, record_or, Closed, owner_of}
use Rattle.request.specs.declared.kinds.Pair.{Pair}
use Rattle.request.specs.Asked.{Asked}
use Rattle.host.specs.Meaning.{HostMeaning, HostRules}
use Rattle.rewrite.specs.Meaning.{Offers, Query, RewriterMeaning, Steady, query}
use Rattle.rewrite.specs.Kinds.{custom, force, ends_as, live_ends, if_same, same_ends, own_or, aside_offer, below_or}
use Rattle.rewrite.specs.Keeping.{custom_steady, force_steady}
use Rattle.matcher.specs.Derivations.{Nth, Offered, Derives, DerivesAll, First}
use Rattle.matcher.specs.Laws.{answers, FindsFirst, MoreFinds, CustomFinds, ForceFinds}
use Rattle.matcher.specs.Search.{Hit, asking, seek, if_finished, found}
use Rattle.matcher.specs.Trees.{Pat, Pats, hole, ground, app, end, more, View, part, part_in, tree_of, tree_as, all_trees, view}
use Rattle.matcher.proofs.Firsts.{FirstAt, seek_first}

-- what holds of every application that is opened in a tree
abbrev mutual
  pub Opened : (ℕ → Type 0) → Pat → Type 0
  Opened W (hole s o) = Unit {0}
  Opened W (ground t) = Unit {0}
  Opened W (app s ps) = W s × OpenedAll W ps

  pub OpenedAll : (ℕ → Type 0) → Pats → Type 0
  OpenedAll W end = Unit {0}
  OpenedAll W (more p ps) = Opened W p × OpenedAll W ps

module _ (V : View) (a a' : ℕ → ℕ → Option Offers) (W : ℕ → Type 0)
    (whole : (b t i n k : ℕ) → Offered (a b t) i n k → V.owner k ≡ Some t → (j : ℕ) × (n' : ℕ) × (k' : ℕ) × Offered (a' b t) j n' k' × (V.owner k' ≡ Some t))
    (part_of : (b s i n k : ℕ) → W s → Offered (a b s) i n k → (j : ℕ) × (n' : ℕ) × Offered (a' b s) j n' k) where
  abbrev Other : Pat → ℕ → Type 0
  Other p b = (cs : List ℕ) × (xs : List Pair) × Derives V a' p b cs xs

  abbrev OtherAll : Pats → List ℕ → Type 0
  OtherAll ps bs = (cs : List ℕ) × (xs : List Pair) × DerivesAll V a' ps bs cs xs

  carry_whole : {t b : ℕ} {cs : List ℕ} {xs : List Pair} → Derives V a (ground t) b cs xs → Other (ground t) b
  carry_whole Derives.whole_same = ([], [], Derives.whole_same)
  carry_whole (Derives.whole_offer {t = t} {b = b} ne o own) =
      let g = whole b t _ _ _ o own in
      (_, _, Derives.whole_offer ne g.3 g.4)

  mutual
    pub carry : {p : Pat} {b : ℕ} {cs : List ℕ} {xs : List Pair} → Derives V a p b cs xs → Opened W p → Other p b
    carry Derives.whole_same w = carry_whole Derives.whole_same
    carry (Derives.whole_offer ne o own) w = carry_whole (Derives.whole_offer ne o own)
    carry Derives.variable_same w = ([], [], Derives.variable_same)
    carry (Derives.variable_bound ne d) w = let g = carry_whole d in (g.0, g.1, Derives.variable_bound ne g.2)
    carry Derives.same w = ([], [], Derives.same)
    carry (Derives.unrewritten ne f d) w = let g = carry_all d w.1 in (_, _, Derives.unrewritten ne f g.2)
    carry (Derives.rewritten {s = s} {b = b} ne o own f d) w =
        let g = carry_all d w.1 in
        let q = part_of b s _ _ _ w.0 o in
        (_, _, Derives.rewritten ne q.2 own f g.2)

    carry_all : {ps : Pats} {bs cs : List ℕ} {xs : List Pair} → DerivesAll V a ps bs cs xs → OpenedAll W ps → OtherAll ps bs
    carry_all DerivesAll.none_left w = ([], [], DerivesAll.none_left)
    carry_all (DerivesAll.one_more d e) w =
        let g = carry d w.0 in
        let h = carry_all e w.1 in
        (_, _, DerivesAll.one_more g.2 h.2)

-- by a steady rewriter
steady_found : (ρ : RewriterMeaning) (D : List ℕ → List Pair → Type 0) (st : ℕ) (r : Option Hit) → Steady ρ → FirstAt st D r → First D (if_finished ρ r)
steady_found ρ D st None steady f = f
steady_found ρ D st (Some h) steady f = go (ρ.finished h.state) (steady.done h.state)
  where
    go : (q : Bool) → q ≡ true → First D (cond q (Some h.pairs) None)
    go true e = f.1
    go false e = absurd (true≢false (sym e))

pub finds_first : FindsFirst
finds_first V ρ m ns p b steady =
    steady_found ρ (Derives V (answers ρ m ns) p b) ρ.first (seek V (asking ρ m ns) p b ρ.first) steady (seek_first V (asking ρ m ns) ρ.first (λ b s. steady.stays ρ.first (query m ns b s)) p b)

pub some_derived : (D : List ℕ → List Pair → Type 0) (r : Option (List Pair)) → First D r → is_some r ≡ true → (cs : List ℕ) × (xs : List Pair) × D cs xs
some_derived D None f e = absurd (true≢false (sym e))
some_derived D (Some xs) f e = (f.0, xs, f.1)

pub derived_some : (D : List ℕ → List Pair → Type 0) (r : Option (List Pair)) (cs : List ℕ) (xs : List Pair) → First D r → D cs xs → is_some r ≡ true
derived_some D None cs xs f d = absurd (f cs xs d)
derived_some D (Some ys) cs xs f d = refl

-- one rewriter finds wherever another does, if derivations can be carried over
carried : (V : View) (ρ σ : RewriterMeaning) (m : HostMeaning) (ns : List ℕ) (W : ℕ → Type 0) (p : Pat) (b : ℕ)
    → ((b t i n k : ℕ) → Offered (answers ρ m ns b t) i n k → V.owner k ≡ Some t → (j : ℕ) × (n' : ℕ) × (k' : ℕ) × Offered (answers σ m ns b t) j n' k' × (V.owner k' ≡ Some t))
    → ((b s i n k : ℕ) → W s → Offered (answers ρ m ns b s) i n k → (j : ℕ) × (n' : ℕ) × Offered (answers σ m ns b s) j n' k)
    → Opened W p → Steady ρ → Steady σ → is_some (found V ρ m ns p b) ≡ true → is_some (found V σ m ns p b) ≡ true
carried V ρ σ m ns W p b whole part_of w steady steady' e =
    let d = some_derived (Derives V (answers ρ m ns) p b) (found V ρ m ns p b) (finds_first V ρ m ns p b steady) e in
    let g = carry V (answers ρ m ns) (answers σ m ns) W whole part_of d.2 w in
    derived_some (Derives V (answers σ m ns) p b) (found V σ m ns p b) g.0 g.1 (finds_first V σ m ns p b steady') g.2

mutual
  any_opened : (p : Pat) → Opened (λ _. Unit {0}) p
  any_opened (hole s o) = tt
  any_opened (ground t) = tt
  any_opened (app s ps) = (tt, any_opened_all ps)

  any_opened_all : (ps : Pats) → OpenedAll (λ _. Unit {0}) ps
  any_opened_all end = tt
  any_opened_all (more p ps) = (any_opened p, any_opened_all ps)

pub more_finds : MoreFinds
more_finds V ρ σ m ns p b steady steady' more-offers e =
    carried V ρ σ m ns (λ _. Unit {0}) p b
    (λ b t i n k o own. let g = more-offers b t i n k o in (g.0, g.1, k, g.2, own))
    (λ b s i n k w o. more-offers b s i n k o)
    (any_opened p) steady steady' e

-- an application that is opened is not closed, so that no node of it is live
abbrev NotClosed : Tables → ℕ → Type 0
NotClosed S s = Closed S s → ⊥

yes_not_no : (m : HasVar) → m ≡ Yes → m ≡ No → ⊥
yes_not_no m e f = let z : ◌≡◌ {A = ℕ} 0 1 = cc in omega arith

unknown_not_no : (m : HasVar) → m ≡ Unknown → m ≡ No → ⊥
unknown_not_no m e f = let z : ◌≡◌ {A = ℕ} 0 1 = cc in omega arith

opened_trees : (W : ℕ → Type 0) (f : ℕ → Pat) → ((c : ℕ) → Opened W (f c)) → (cs : List ℕ) → OpenedAll W (all_trees f cs)
opened_trees W f h [] = tt
opened_trees W f h (c ∷ cs) = (h c, opened_trees W f h cs)

opened_as : (R : Asked) (s : ℕ) (k : TermKind) (m : HasVar) (ps : Pats) → recorded R.store s ≡ m → OpenedAll (NotClosed R.store) ps → Opened (NotClosed R.store) (tree_as R s k m ps)
opened_as R s (Var v) m ps e h = tt
opened_as R s (App f) No ps e h = tt
opened_as R s (App f) Yes ps e h = (yes_not_no (recorded R.store s) e, h)
opened_as R s (App f) Unknown ps e h = (unknown_not_no (recorded R.store s) e, h)
opened_as R s (Quant q) m ps e h = tt

opened_of : (R : Asked) (s : ℕ) (o : Option Term) (f : ℕ → Pat) → term_at R.store s ≡ o → ((c : ℕ) → Opened (NotClosed R.store) (f c)) → Opened (NotClosed R.store) (tree_of R s o f)
opened_of R s None f e h = tt
opened_of R s (Some x) f e h = opened_as R s x.kind x.has_var (all_trees f (kids R.store x)) (ap (record_or Unknown) e) (opened_trees (NotClosed R.store) f h (kids R.store x))

pub opened_part : (R : Asked) (k s : ℕ) → Opened (NotClosed R.store) (part_in R k s)
opened_part R zero s = tt
opened_part R (suc k) s = opened_of R s (term_at R.store s) (part_in R k) refl (λ c. opened_part R k c)

not_live : (o : Option ℕ) → ((n : ℕ) → o ≡ Some n → ⊥) → o ≡ None
not_live None h = refl
not_live (Some n) h = absurd (h n refl)

no_ends : (a b : Option ℕ) → b ≡ None → ends_as a b ≡ None
no_ends None b e = refl
no_ends (Some n) b e = ap (ends_as (Some n)) e

to_live : (a b : Option ℕ) (p : Pair) → ends_as a b ≡ Some p → b ≡ Some p.to
to_live None b p e = absurd (some_not_none None p refl e)
to_live (Some n) None p e = absurd (some_not_none None p refl e)
to_live (Some n) (Some k) p e = ap (λ x. Some x.to) (same_some _ _ p refl e)

if_same_is : (m : HostMeaning) (r : Option Pair) (p : Pair) → if_same m r ≡ Some p → r ≡ Some p
if_same_is m None p e = absurd (some_not_none None p refl e)
if_same_is m (Some x) p e = go (m.loose x.from x.to) e
  where
    go : (q : Bool) → cond q (Some x) None ≡ Some p → Some x ≡ Some p
    go true e = e
    go false e = absurd (some_not_none None p refl e)

offered_below : {o : Option Offers} {i n k : ℕ} (x : Option Offers) → Offered o i n k → Offered (below_or o x) i n k
offered_below x (Offered.offered h) = Offered.offered h

module _ (S : Tables) (m : HostMeaning) (ns : List ℕ) (rules : HostRules S m) where
  -- a layer's own offer at a term that is matched whole goes to a node of that term
  own_whole : (t : ℕ) (r : Option Pair) (o : Option Offers) → ((p : Pair) → r ≡ Some p → m.live t ≡ Some p.to) → (i n k : ℕ) → (r ≡ None → (j : ℕ) × (n' : ℕ) × (k' : ℕ) × Offered o j n' k' × (owner_of S k' ≡ Some t)) → (j : ℕ) × (n' : ℕ) × (k' : ℕ) × Offered (own_or r o) j n' k' × (owner_of S k' ≡ Some t)
  own_whole t None o h i n k low = low refl
  own_whole t (Some p) o h i n k low = (0, p.from, p.to, Offered.offered Nth.first, rules.live_owned t p.to (h p refl))

  silent : (b s : ℕ) → NotClosed S s → live_ends (query m ns b s) ≡ None
  silent b s w = no_ends (m.live b) (m.live s) (not_live (m.live s) (λ n e. w (rules.live_closed s n e)))

  module _ (ρ : RewriterMeaning) where
    pub custom_whole : (b t i n k : ℕ) → Offered (answers ρ m ns b t) i n k → owner_of S k ≡ Some t → (j : ℕ) × (n' : ℕ) × (k' : ℕ) × Offered (answers (custom ρ) m ns b t) j n' k' × (owner_of S k' ≡ Some t)
    custom_whole b t i n k o own = own_whole t (same_ends (query m ns b t)) (answers ρ m ns b t) (λ p e. to_live (m.live b) (m.live t) p (if_same_is m (live_ends (query m ns b t)) p e)) i n k (λ _. (i, n, k, o, own))

    pub custom_part : (b s i n k : ℕ) → NotClosed S s → Offered (answers ρ m ns b s) i n k → (j : ℕ) × (n' : ℕ) × Offered (answers (custom ρ) m ns b s) j n' k
    custom_part b s i n k w o = (i, n, subst (λ r. Offered (own_or r (answers ρ m ns b s)) i n k) (sym (ap (if_same m) (silent b s w))) o)

    not_same : (q : Query) → live_ends q ≡ None → same_ends q ≡ None
    not_same q e = ap (if_same q.host) e

    pub force_whole : (b t i n k : ℕ) → Offered (answers (custom ρ) m ns b t) i n k → owner_of S k ≡ Some t → (j : ℕ) × (n' : ℕ) × (k' : ℕ) × Offered (answers (force ρ) m ns b t) j n' k' × (owner_of S k' ≡ Some t)
    force_whole b t i n k o own =
        own_whole t (live_ends (query m ns b t)) (below_or (answers ρ m ns b t) (aside_offer (query m ns b t))) (λ p e. to_live (m.live b) (m.live t) p e) i n k
        (λ none. (i, n, k, offered_below (aside_offer (query m ns b t)) (subst (λ r. Offered (own_or r (answers ρ m ns b t)) i n k) (not_same (query m ns b t) none) o), own))

    pub force_part : (b s i n k : ℕ) → NotClosed S s → Offered (answers (custom ρ) m ns b s) i n k → (j : ℕ) × (n' : ℕ) × Offered (answers (force ρ) m ns b s) j n' k
    force_part b s i n k w o =
        let none = silent b s w in (
          i,
          n,
          subst (λ r. Offered (own_or r (below_or (answers ρ m ns b s) (aside_offer (query m ns b s)))) i n k) (sym none)
              (offered_below (aside_offer (query m ns b s)) (subst (λ r. Offered (own_or r (answers ρ m ns b s)) i n k) (not_same (query m ns b s) none) o)),
        )

pub custom_finds : CustomFinds
custom_finds R ρ m ns s b rules steady e =
    carried (view R.store) ρ (custom ρ) m ns (NotClosed R.store) (part R s) b (custom_whole R.store m ns rules ρ) (custom_part R.store m ns rules ρ) (opened_part R 64 s) steady (custom_steady ρ steady) e

pub force_finds : ForceFinds
force_finds R ρ m ns s b rules steady e =
    carried (view R.store) (custom ρ) (force ρ) m ns (NotClosed R.store) (part R s) b (force_whole R.store m ns rules ρ) (force_part R.store m ns rules ρ) (opened_part R 64 s) (custom_steady ρ steady) (force_steady ρ steady) e
