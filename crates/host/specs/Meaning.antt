-- What a host means, and the rules that each host keeps.
use Rattle.std.specs.Prelude.{◌≡◌, ℕ, ◌<◌, ◌≤◌, Bool, true, false, ◌⊎◌, List, [], ◌∷◌, ◌++◌, length, Some, Ok, Err, Option, Result, ◌≢◌}
use Rattle.std.specs.List.{slice_get}
use Rattle.store.specs.declared.fault.Culprit.TheVariants.{Nothing}
use Rattle.store.specs.declared.fault.Fault.{Fault}
use Rattle.store.specs.declared.fault.Layer.TheVariants.{Host}
use Rattle.store.specs.declared.fault.Refusal.{Refusal}
use Rattle.store.specs.declared.fault.Refusal.TheVariants.{BadEnds, EndsApart, EndsLooselyJoined, HostFull}
use Rattle.store.specs.Tables.{Tables, owner_of, Closed}
use Rattle.request.specs.declared.kinds.Pair.{Pair}
use Rattle.request.specs.Pairs.{is_proper}
use Rattle.host.specs.declared.allowed.TransEqAllowed.{TransEqAllowed}

-- a live node or none for each term; whether one loose class, one strict class holds two nodes; the equalities made, by number, and how many there may be
pub record HostMeaning : Type 0 where
  pub live : ℕ → Option ℕ
  pub loose : ℕ → ℕ → Bool
  pub strict : ℕ → ℕ → Bool
  pub listed : List Pair
  pub room : ℕ

pub record HostRules (S : Tables) (m : HostMeaning) : Type 0 where
  pub live_owned : (t n : ℕ) → m.live t ≡ Some n → owner_of S n ≡ Some t
  pub live_closed : (t n : ℕ) → m.live t ≡ Some n → Closed S t
  pub classes_hold_nodes : (a b : ℕ) → m.loose a b ≡ true → (a < length S.nodes) × (b < length S.nodes)
  pub strict_within_loose : (a b : ℕ) → m.strict a b ≡ true → m.loose a b ≡ true
  pub few : length m.listed ≤ m.room

-- ends that are apart need the initial allowance, ends that are only loosely joined the congruence allowance
pub record Permitted (m : HostMeaning) (p : Pair) (a : TransEqAllowed) : Type 0 where
  pub apart : m.loose p.from p.to ≡ false → a.can_mismatch_initial ≡ true
  pub joined : m.loose p.from p.to ≡ true → m.strict p.from p.to ≡ false → a.can_mismatch_congr ≡ true

abbrev pub in_host : Refusal → Fault
in_host k = record { refusal = k; layer = Host; culprit = Nothing }

-- what the look at the allowances answers
abbrev pub Permits : HostMeaning → Pair → TransEqAllowed → Result (Unit {0}) Fault → Type 0
Permits m p a (Ok x) = Permitted m p a
Permits m p a (Err f) =
    ((f ≡ in_host EndsApart) × (m.loose p.from p.to ≡ false) × (a.can_mismatch_initial ≡ false))
    ⊎ ((f ≡ in_host EndsLooselyJoined) × (m.loose p.from p.to ≡ true) × (m.strict p.from p.to ≡ false) × (a.can_mismatch_congr ≡ false))

abbrev pub Unlisted : HostMeaning → Pair → Type 0
Unlisted m p = (k : ℕ) → slice_get m.listed k ≢ Some p

abbrev pub with_listed : HostMeaning → List Pair → HostMeaning
with_listed m ps = record { live = m.live; loose = m.loose; strict = m.strict; listed = ps; room = m.room }

-- One making: the first ground that holds refuses and changes nothing. Else the answer is the number of some equality that is listed with
-- these ends, which of several is left to the host; and if there is none, the equality is appended, unless the list is full.
pub data Makes (S : Tables) (m : HostMeaning) (p : Pair) (a : TransEqAllowed) : Result ℕ Fault → HostMeaning → Type 0 where
  bad_ends : is_proper S p ≡ false → Makes S m p a (Err (in_host BadEnds)) m
  apart : is_proper S p ≡ true → m.loose p.from p.to ≡ false → a.can_mismatch_initial ≡ false → Makes S m p a (Err (in_host EndsApart)) m
  loosely_joined : is_proper S p ≡ true → m.loose p.from p.to ≡ true → m.strict p.from p.to ≡ false → a.can_mismatch_congr ≡ false → Makes S m p a (Err (in_host EndsLooselyJoined)) m
  full : is_proper S p ≡ true → Permitted m p a → Unlisted m p → m.room ≤ length m.listed → Makes S m p a (Err (in_host HostFull)) m
  known : {k : ℕ} → is_proper S p ≡ true → Permitted m p a → slice_get m.listed k ≡ Some p → Makes S m p a (Ok k) m
  added : is_proper S p ≡ true → Permitted m p a → Unlisted m p → length m.listed < m.room → Makes S m p a (Ok (length m.listed)) (with_listed m (m.listed ++ p ∷ []))
