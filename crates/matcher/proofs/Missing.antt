-- A level goes on after a failure: it asks, or takes the next offer.
use Rattle.std.proofs.Common.{◌≡◌, ℕ, suc, ◌+◌, ◌<◌, Bool, true, false, cond, List, [], ◌∷◌, ◌++◌, reverse, length, take, drop, Some, None, Option, sym, refl, ap, ◌∙◌, subst, add-one, arith, length-take}
use mathlib.Core.Path.{transport}
use Rattle.std.specs.List.{slice_get}
use Rattle.std.proofs.lemmas.List.{reverse-append, length_push}
use Rattle.store.proofs.Decided.{some_not_none, nth_there}
use Rattle.store.specs.Tables.{term_at, owner_of}
use Rattle.request.specs.declared.kinds.Pair.{Pair}
use Rattle.request.specs.Asked.{Asked}
use Rattle.rewrite.specs.Meaning.{RewriterMeaning, offer_at, returned}
use Rattle.matcher.specs.declared.level.Level.{Level}
use Rattle.matcher.specs.declared.level.Taken.{Taken}
use Rattle.matcher.specs.declared.level.Mode.{Mode}
use Rattle.matcher.specs.declared.level.Mode.TheVariants.{Miss}
use Rattle.matcher.specs.declared.level.Trying.{Trying}
use Rattle.matcher.specs.declared.machine.PatternMatcher.{PatternMatcher}
use Rattle.matcher.specs.Machine.{tos_of, left, resume, runner, phase_run, PhaseSound, LevelSound, Stacked, ModeSound}
use Rattle.matcher.specs.Running.{tick, offers_run, one_run}
use Rattle.matcher.specs.Search.{Asking, ends}
use Rattle.matcher.specs.Stepping.{stack, taken_by, taken, taken_level, taken_pairs, settled_mode, Takes, MachineSound, Stepped, machine_left}
use Rattle.matcher.specs.Trees.{fits_as, view}
use Rattle.matcher.proofs.Offering.{drop_nth}
use Rattle.matcher.proofs.Turning.{stepped_at, cap_64}
use Rattle.matcher.proofs.Advancing.{size_now}

module _ (R : Asked) (ρ : RewriterMeaning) (A : Asking) (l : Level) (ls : List Level) (acc : List Pair) (ok : LevelSound R ρ A l ls) where
  module _ (w : Trying) (p : l.phase ≡ Some w) where
    abbrev pub phased : PhaseSound ρ A l (Some w)
    phased = subst (PhaseSound ρ A l) p ok.phased

    abbrev pub one_more : Trying
    one_more = record w { tried = w.tried + 1 }

    abbrev pub with_one_more : Level
    with_one_more = record l { phase = Some one_more }

    offered_eq : (st : ℕ) → left R A (l ∷ ls) acc Miss st ≡ offers_run (view R.store) A (runner R A l.subpat) l.subpat w.offered.from (drop w.tried phased.0) w.after l.start (resume R A ls) acc
    offered_eq st =
        ap (λ ph. phase_run R A l ph (resume R A ls) acc) p
        ∙ ap (λ a. offers_run (view R.store) A (runner R A l.subpat) l.subpat w.offered.from (drop w.tried (tos_of a)) w.after l.start (resume R A ls) acc) phased.1

    one_eq : (m : ℕ) (o : Option ℕ) → one_run (view R.store) A (runner R A l.subpat) l.subpat w.offered.from m w.after l.start (resume R A ls) acc (phase_run R A l (Some one_more) (resume R A ls)) o ≡ left R A (taken_level with_one_more (taken_by R.store l.subpat m o) ∷ ls) (taken_pairs (take l.start acc) w.offered.from (taken_by R.store l.subpat m o)) (settled_mode (taken_by R.store l.subpat m o)) w.after
    one_eq m None = refl
    one_eq m (Some c) = go (fits_as (term_at R.store c) (term_at R.store l.subpat))
      where
        go : (q : Bool) → cond q (runner R A l.subpat ((view R.store).below c) w.after (take l.start acc ++ ends w.offered.from m ∷ []) (phase_run R A l (Some one_more) (resume R A ls)) (resume R A ls)) (phase_run R A l (Some one_more) (resume R A ls) (take l.start acc)) ≡ left R A (taken_level with_one_more (cond q (Some (record { node = m; term = c })) None) ∷ ls) (taken_pairs (take l.start acc) w.offered.from (cond q (Some (record { node = m; term = c })) None)) (settled_mode {X = Taken} (cond q (Some (record { node = m; term = c })) None)) w.after
        go true = refl
        go false = refl

    pub take_eq : (st m : ℕ) → slice_get phased.0 w.tried ≡ Some m → left R A (l ∷ ls) acc Miss st ≡ tick (left R A (taken_level with_one_more (taken R.store l.subpat (Some m)) ∷ ls) (taken_pairs (take l.start acc) w.offered.from (taken R.store l.subpat (Some m))) (settled_mode (taken R.store l.subpat (Some m))) w.after)
    take_eq st m e =
        offered_eq st
        ∙ ap (λ ms. offers_run (view R.store) A (runner R A l.subpat) l.subpat w.offered.from ms w.after l.start (resume R A ls) acc) (drop_nth phased.0 w.tried m e)
        ∙ (λ i. tick (one_run (view R.store) A (runner R A l.subpat) l.subpat w.offered.from m w.after l.start (resume R A ls) acc (offers_run (view R.store) A (runner R A l.subpat) l.subpat w.offered.from (rest i) w.after l.start (resume R A ls)) (owner_of R.store m)))
        ∙ ap tick (one_eq m (owner_of R.store m))
      where
        rest : drop (suc w.tried) phased.0 ≡ drop (w.tried + 1) (tos_of (A.ask l.before l.blame l.subpat))
        rest = ap (λ k. drop k phased.0) (sym (add-one w.tried)) ∙ ap (λ a. drop (w.tried + 1) (tos_of a)) (sym phased.1)

    tried_sound : LevelSound R ρ A with_one_more ls
    tried_sound = record { finite = ok.finite; opens = ok.opens; shallow = ok.shallow; room = ok.room; marked = ok.marked; phased = phased }

    pub take_level : (o : Option Taken) → LevelSound R ρ A (taken_level with_one_more o) ls
    take_level None = tried_sound
    take_level (Some t) = record { finite = ok.finite; opens = ok.opens; shallow = ok.shallow; room = ok.room; marked = ok.marked; phased = phased }

    pub take_mode : (o : Option Taken) → ModeSound R ρ (taken_level with_one_more o ∷ ls) (taken_pairs (take l.start acc) w.offered.from o) w.after (settled_mode o)
    take_mode None = tt
    take_mode (Some t) = (omega (arith, length_push (take l.start acc) (ends w.offered.from t.node), length-take l.start acc, size_now R ρ A l ls acc 0 ok), phased.4)

module _ (R : Asked) (ρ : RewriterMeaning) (A : Asking) (M : PatternMatcher) (l : Level) (stacked : Stacked R ρ A (l ∷ stack M)) where
  pub pairs_room : length (take l.start M.pairs) < 64
  pairs_room = omega (arith, stacked.0.room, size_now R ρ A l (stack M) [] 0 stacked.0, cap_64 R ρ A (stack M) stacked.1, length-take l.start M.pairs)

  module _ (w : Trying) (p : l.phase ≡ Some w) where
    pub take_turn : (N M' : PatternMatcher) (st st' : ℕ) (o : Option Taken) → w.tried < w.offered.count → st' ≡ returned ρ w.after → N.levels ≡ M.levels → N.pairs ≡ take l.start M.pairs → o ≡ taken R.store l.subpat (offer_at (A.ask l.before l.blame l.subpat) w.tried) → Takes N (with_one_more R ρ A l (stack M) M.pairs stacked.0 w p) w.offered.from o M' → Stepped R ρ A (left R A (l ∷ stack M) M.pairs Miss st) M' st'
    take_turn N M' st st' o h back e g is done = subst (Stepped R ρ A (left R A (l ∷ stack M) M.pairs Miss st) M') (sym (back ∙ ap (λ q. cond q w.after ρ.first) ph.4)) (go (offer_at (A.ask l.before l.blame l.subpat) w.tried) (ap (λ a. offer_at a w.tried) ph.1) (subst (λ x. Takes N l' w.offered.from x M') is done))
      where
        ph : PhaseSound ρ A l (Some w)
        ph = phased R ρ A l (stack M) M.pairs stacked.0 w p

        l' : Level
        l' = with_one_more R ρ A l (stack M) M.pairs stacked.0 w p

        go : (to : Option ℕ) → to ≡ slice_get ph.0 w.tried → Takes N l' w.offered.from (taken R.store l.subpat to) M' → Stepped R ρ A (left R A (l ∷ stack M) M.pairs Miss st) M' w.after
        go None is done = let there = nth_there ph.0 w.tried (omega (arith, h, ph.2)) in absurd (some_not_none (slice_get ph.0 w.tried) there.0 is there.1)
        go (Some m) is done =
            let o = taken R.store l.subpat (Some m) in
            stepped_at R ρ A (left R A (l ∷ stack M) M.pairs Miss st) M' w.after (taken_level l' o ∷ stack M) (taken_pairs (take l.start M.pairs) w.offered.from o) (settled_mode o)
            (ap reverse done.levels ∙ reverse-append N.levels (taken_level l' o ∷ []) ∙ ap (λ x. taken_level l' o ∷ reverse x) e)
            (done.pairs ∙ ap (λ x. taken_pairs x w.offered.from o) g) done.mode
            (take_eq R ρ A l (stack M) M.pairs stacked.0 w p st m (sym is))
            (take_level R ρ A l (stack M) M.pairs stacked.0 w p o, stacked.1)
            (take_mode R ρ A l (stack M) M.pairs stacked.0 w p o)

-- the top level taken off
module _ (R : Asked) (ρ : RewriterMeaning) (A : Asking) (M N : PatternMatcher) (l : Level) (mode : Mode) (st : ℕ) (is : M.mode ≡ mode) (popped : M.levels ≡ N.levels ++ l ∷ []) (same : N.pairs ≡ M.pairs) where
  off_stack : stack M ≡ l ∷ stack N
  off_stack = ap reverse popped ∙ reverse-append N.levels (l ∷ [])

  pub off_stacked : MachineSound R ρ A M st → Stacked R ρ A (l ∷ stack N)
  off_stacked sound = subst (Stacked R ρ A) off_stack sound.levels

  pub off_here : MachineSound R ρ A M st → ModeSound R ρ (l ∷ stack N) N.pairs st mode
  off_here sound = transport (λ i. ModeSound R ρ (off_stack i) (sym same i) st (is i)) sound.here

  pub off_turn : (M' : PatternMatcher) (st' : ℕ) → Stepped R ρ A (left R A (l ∷ stack N) N.pairs mode st) M' st' → Stepped R ρ A (machine_left R A M st) M' st'
  off_turn M' st' done = record { one_step = (λ i. left R A (off_stack i) (sym same i) (is i) st) ∙ done.one_step; sound = done.sound }
