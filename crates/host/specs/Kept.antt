-- A host of tables keeps the host rules.
use Rattle.std.specs.Prelude.{◌≡◌, ℕ, ◌<◌, Bool, true, false, cond, ◌&&◌, length, Some, None, Option, refl}
use Rattle.std.proofs.Common.{sym, ap, subst}
use Rattle.std.specs.List.{slice_get}
use Rattle.std.proofs.lemmas.Bool.{and_parts, eqb-true, true≢false}
use Rattle.std.proofs.lemmas.Option.{cond_some}
use Rattle.store.specs.declared.term.HasVar.{HasVar}
use Rattle.store.specs.declared.term.HasVar.TheVariants.{No, Yes, Unknown}
use Rattle.store.specs.Tables.{Tables, owner_of, recorded, Closed}
use Rattle.store.proofs.Decided.{some_not_none}
use Rattle.host.specs.declared.table.TableHost.{TableHost}
use Rattle.host.specs.Meaning.{HostRules}
use Rattle.host.specs.Reading.{is_no, is_the, live_as}
use Rattle.host.specs.Tabled.{tabled}

pub the_owner : (o : Option ℕ) (t : ℕ) → is_the o t ≡ true → o ≡ Some t
the_owner None t e = absurd (true≢false (sym e))
the_owner (Some n) t e = ap Some (eqb-true n t e)

no_var : (m : HasVar) → is_no m ≡ true → m ≡ No
no_var No e = refl
no_var Yes e = absurd (true≢false (sym e))
no_var Unknown e = absurd (true≢false (sym e))

pub live_kept : (S : Tables) (t n : ℕ) (o : Option ℕ) → live_as S t o ≡ Some n → (owner_of S n ≡ Some t) × Closed S t
live_kept S t n None e = absurd (some_not_none None n refl e)
live_kept S t n (Some m) e =
    let c = cond_some (is_the (owner_of S m) t && is_no (recorded S t)) m n e in
    let both = and_parts (is_the (owner_of S m) t) (is_no (recorded S t)) c.0 in
    (subst (λ k. owner_of S k ≡ Some t) c.1 (the_owner (owner_of S m) t both.0), no_var (recorded S t) both.1)

pub tabled_rules : {P : Type 0} (joins : P → ℕ → ℕ → ℕ → Bool) → ((p : P) (nodes a b : ℕ) → joins p nodes a b ≡ true → (a < nodes) × (b < nodes)) → (S : Tables) (h : TableHost P) → HostRules S (tabled joins S h)
tabled_rules joins within S h = record {
  live_owned = λ t n e. (live_kept S t n (slice_get h.live.now t) e).0;
  live_closed = λ t n e. (live_kept S t n (slice_get h.live.now t) e).1;
  classes_hold_nodes = λ a b e. within h.loose (length S.nodes) a b e;
  strict_within_loose = λ a b e. (and_parts _ _ e).0;
  few = h.few;
}
