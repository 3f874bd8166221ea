-- Each turn of the machine leaves the answer as it is and takes one step, over plain lists.
use Rattle.std.proofs.Common.{◌≡◌, ℕ, suc, ◌<◌, ◌≤◌, Bool, true, false, cond, eqb, List, [], ◌∷◌, reverse, length, sym, refl, ap, ◌∙◌, subst, arith}
use mathlib.Core.Path.{transport}
use Rattle.std.proofs.lemmas.List.{length-reverse, reverse-append}
use Rattle.std.proofs.lemmas.Bool.{ne_eqb, cond-false}
use Rattle.request.specs.declared.kinds.Pair.{Pair}
use Rattle.request.specs.Asked.{Asked}
use Rattle.request.specs.Places.{Preorder, place, opened}
use Rattle.rewrite.specs.Meaning.{RewriterMeaning}
use Rattle.matcher.specs.declared.level.Level.{Level}
use Rattle.matcher.specs.declared.level.Mode.{Mode}
use Rattle.matcher.specs.declared.level.Mode.TheVariants.{Down, Hit, Miss}
use Rattle.matcher.specs.declared.machine.PatternMatcher.{PatternMatcher}
use Rattle.matcher.specs.Machine.{pats_in, pats_of, left, resume, runner, size, cap, LevelSound, Stacked, ModeSound}
use Rattle.matcher.specs.Running.{Run, tick, run, kids_run, plain_run, fits_run}
use Rattle.matcher.specs.Search.{Asking}
use Rattle.matcher.specs.Stepping.{stack, opened_level, Opens, MachineSound, Stepped, machine_left}
use Rattle.matcher.specs.Trees.{Pat, hole, ground, app, places, places_all, part, part_in, all_trees, view}
use Rattle.matcher.proofs.Depth.{stable_all}

pub places_some : (p : Pat) → 1 ≤ places p
places_some (hole s o) = omega arith
places_some (ground t) = omega arith
places_some (app s ps) = omega arith

module _ (R : Asked) (ρ : RewriterMeaning) (A : Asking) where
  -- a turn, said of the machine's fields
  pub stepped_at : (before : Run) (M : PatternMatcher) (st : ℕ) (ls : List Level) (acc : List Pair) (mode : Mode) → stack M ≡ ls → M.pairs ≡ acc → M.mode ≡ mode → before ≡ tick (left R A ls acc mode st) → Stacked R ρ A ls → ModeSound R ρ ls acc st mode → Stepped R ρ A before M st
  stepped_at before M st ls acc mode e f g step levels here = record {
    one_step = step ∙ (λ i. tick (left R A (sym e i) (sym f i) (sym g i) st));
    sound = record {
      levels = subst (Stacked R ρ A) (sym e) levels;
      here = transport (λ i. ModeSound R ρ (sym e i) (sym f i) st (sym g i)) here;
    };
  }

  pub cap_64 : (ls : List Level) → Stacked R ρ A ls → cap R ls ≤ 64
  cap_64 [] h = omega arith
  cap_64 (l ∷ ls) h = omega (arith, h.0.room, cap_64 ls h.1)

  -- an application whose children are places
  kids_stable : (s : ℕ) (ts : List ℕ) → Preorder R.store s ts → length ts ≤ 64 → all_trees (part_in R 63) (opened R.store s) ≡ all_trees (part R) (opened R.store s)
  kids_stable s ts p h = go p h
    where
      go : {ts : List ℕ} → Preorder R.store s ts → length ts ≤ 64 → all_trees (part_in R 63) (opened R.store s) ≡ all_trees (part R) (opened R.store s)
      go (place q) h = stable_all R 63 64 q (omega arith) (omega arith)

  module _ (ls : List Level) (acc : List Pair) (b s st : ℕ) (ne : b ≡ s → ⊥) (is : part R s ≡ app s (all_trees (part_in R 63) (opened R.store s))) (here : ModeSound R ρ ls acc st (Down b s)) where
    pub opens : part R s ≡ app s (all_trees (part R) (opened R.store s))
    opens = is ∙ ap (app s) (kids_stable s here.0.0 here.0.1 here.0.2)

    pub down_open : left R A ls acc (Down b s) st ≡ tick (left R A (opened_level b s st (length acc) ∷ ls) acc (cond ((view R.store).fits b s) Hit Miss) st)
    down_open =
        ap (λ p. run (view R.store) A p b st acc (resume R A ls)) is
        ∙ ap tick (cond-false (eqb b s) _ _ (ne_eqb b s ne))
        ∙ ap (λ p. tick (fits_run (view R.store) A (λ bs st' acc' mk k. kids_run (view R.store) A (pats_in p) bs st' acc' mk k) s b st acc (resume R A ls))) (sym is)
        ∙ ap tick (go ((view R.store).fits b s))
      where
        go : (q : Bool) → cond q (kids_run (view R.store) A (pats_of R s) ((view R.store).below b) st acc (plain_run (view R.store) A (runner R A s) s b st (length acc) (resume R A ls)) (resume R A ls)) (plain_run (view R.store) A (runner R A s) s b st (length acc) (resume R A ls) acc) ≡ left R A (opened_level b s st (length acc) ∷ ls) acc (cond q Hit Miss) st
        go true = refl
        go false = refl

    size_opened : size R s ≡ suc (places_all (pats_of R s))
    size_opened = ap places opens ∙ ap (λ p. suc (places_all (pats_in p))) (sym opens)

    pub open_level : LevelSound R ρ A (opened_level b s st (length acc)) ls
    open_level = record { finite = here.0; opens = opens; shallow = here.1; room = here.2; marked = here.3; phased = tt }

    pub open_mode : (q : Bool) → ModeSound R ρ (opened_level b s st (length acc) ∷ ls) acc st (cond q Hit Miss)
    open_mode true = (omega (arith, size_opened), here.3)
    open_mode false = tt

  -- there is room for a level of any place that is entered
  pub open_room : (ls : List Level) (acc : List Pair) (b s st : ℕ) → ModeSound R ρ ls acc st (Down b s) → length ls < 64
  open_room ls acc b s st here = omega (arith, here.1, places_some (part R s))

  -- the same, from the machine's mode
  module _ (M : PatternMatcher) (b s st : ℕ) (mode : M.mode ≡ Down b s) (sound : MachineSound R ρ A M st) where
    pub down_here : ModeSound R ρ (stack M) M.pairs st (Down b s)
    down_here = subst (ModeSound R ρ (stack M) M.pairs st) mode sound.here

    pub down_before : machine_left R A M st ≡ left R A (stack M) M.pairs (Down b s) st
    down_before = ap (λ m. left R A (stack M) M.pairs m st) mode

    pub level_room : length M.levels < 64
    level_room = omega (arith, open_room (stack M) M.pairs b s st down_here, length-reverse M.levels)

    module _ (ne : b ≡ s → ⊥) (is : part R s ≡ app s (all_trees (part_in R 63) (opened R.store s))) where
      pub opened_turn : (M' : PatternMatcher) (mark : ℕ) → mark ≡ st → Opens R.store M b s mark M' → Stepped R ρ A (machine_left R A M st) M' st
      opened_turn M' mark e done =
          let l = opened_level b s st (length M.pairs) in
          stepped_at (machine_left R A M st) M' st (l ∷ stack M) M.pairs (cond ((view R.store).fits b s) Hit Miss)
          (ap reverse done.levels ∙ reverse-append M.levels (opened_level b s mark (length M.pairs) ∷ []) ∙ ap (λ n. opened_level b s n (length M.pairs) ∷ stack M) e)
          done.pairs done.mode (down_before ∙ down_open (stack M) M.pairs b s st ne is down_here)
          (open_level (stack M) M.pairs b s st ne is down_here, sound.levels) (open_mode (stack M) M.pairs b s st ne is down_here ((view R.store).fits b s))
