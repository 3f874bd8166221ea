-- The first ground that holds, at the first culprit.
use Rattle.std.proofs.Common.{◌≡◌, ℕ, ◌≤◌, ◌⊎◌, Some, Ok, Err, Result, sym, refl, ap, ◌∙◌, subst, ⊎_elim, arith, MatchResult}
use Rattle.std.specs.List.{slice_get}
use Rattle.store.specs.declared.fault.Culprit.{Culprit}
use Rattle.store.specs.declared.fault.Culprit.TheVariants.{Nothing, Part, Entry, TablePair}
use Rattle.store.specs.declared.fault.Fault.{Fault}
use Rattle.store.specs.declared.fault.Refusal.{Refusal}
use Rattle.store.specs.declared.fault.Refusal.TheVariants.{BadPart, BadEntry}
use Rattle.store.specs.Refusals.{meaning, in_finder, Named, names_part, names_one_entry, names_one_pair}
use Rattle.store.specs.Rules.{StoreRules}
use Rattle.store.proofs.Decided.{Below}
use Rattle.request.specs.declared.kinds.LogEntry.{LogEntry}
use Rattle.request.specs.declared.kinds.Pair.{Pair}
use Rattle.request.specs.Asked.{Asked, parts, part_at}
use Rattle.request.specs.Grounds.{PatternRules, PartRules, BindingRules, CountRules, EntryRules, PairRules, EachPart, EachEntry, EachPair, Admitted, AtFault, store_broken, bad_pattern, bad_part, bad_bindings, bad_count, bad_entry, bad_pair, Before, lower_part, lower_entry, lower_pair, entry_first, Faulted, Clear, Refuses, Checked}

none_before : (c : Culprit) → Before c Nothing → ⊥
none_before c b = elim b [ ]

pub alone : (R : Asked) (k : Refusal) → Named (meaning k).names Nothing → AtFault R k Nothing → Faulted R k (in_finder k Nothing)
alone R k n h = record { refusal = refl; layer = refl; named = n; holds = h; first = λ c b f. none_before c b }

first_part : {R : Asked} {i : ℕ} {c : Culprit} → Below (λ _ p. PartRules R.store p) (parts R) i → Before c (Part i) → AtFault R BadPart c → ⊥
first_part ok (lower_part {i = j} h) (bad_part p e no-good) = no-good (ok j h p e)

pub at_part : (R : Asked) (i p : ℕ) → Below (λ _ q. PartRules R.store q) (parts R) i → part_at R i ≡ Some p → (PartRules R.store p → ⊥) → Faulted R BadPart (in_finder BadPart (Part i))
at_part R i p ok e no-good = record { refusal = refl; layer = refl; named = names_part; holds = bad_part p e no-good; first = λ c b f. first_part ok b f }

first_entry : {R : Asked} {i : ℕ} {c : Culprit} → Below (λ _ e. EntryRules R e) R.entries i → Before c (Entry i) → AtFault R BadEntry c → ⊥
first_entry ok (lower_entry {i = j} h) (bad_entry x e no-good) = no-good (ok j h x e)

pub at_entry : (R : Asked) (i : ℕ) (x : LogEntry) → Below (λ _ e. EntryRules R e) R.entries i → slice_get R.entries i ≡ Some x → (EntryRules R x → ⊥) → Faulted R BadEntry (in_finder BadEntry (Entry i))
at_entry R i x ok e no-good = record { refusal = refl; layer = refl; named = names_one_entry; holds = bad_entry x e no-good; first = λ c b f. first_entry ok b f }

first_pair : {R : Asked} {i : ℕ} {c : Culprit} → EachEntry R → Below (PairRules R) R.pairs i → Before c (TablePair i) → AtFault R BadEntry c → ⊥
first_pair each ok (lower_pair {i = j} h) (bad_pair x e no-good) = no-good (ok j h x e)
first_pair each ok (entry_first {i = j}) (bad_entry x e no-good) = no-good (each j x e)

pub at_pair : (R : Asked) (i : ℕ) (x : Pair) → EachEntry R → Below (PairRules R) R.pairs i → slice_get R.pairs i ≡ Some x → (PairRules R i x → ⊥) → Faulted R BadEntry (in_finder BadEntry (TablePair i))
at_pair R i x each ok e no-good = record { refusal = refl; layer = refl; named = names_one_pair; holds = bad_pair x e no-good; first = λ c b f. first_pair each ok b f }

-- a ground that has not been reached has too high a number
pub clear : (R : Asked) (n : ℕ) → n ≤ 6 → (n ≤ 1) ⊎ StoreRules R.store → (n ≤ 2) ⊎ PatternRules R → (n ≤ 3) ⊎ EachPart R → (n ≤ 4) ⊎ BindingRules R → (n ≤ 5) ⊎ CountRules R → Clear R n
clear R n six a b c d e k x lt (store_broken no-good) = ⊎_elim (λ le. omega arith) no-good a
clear R n six a b c d e k x lt (bad_pattern no-good) = ⊎_elim (λ le. omega arith) no-good b
clear R n six a b c d e k x lt (bad_part {i = i} p f no-good) = ⊎_elim (λ le. omega arith) (λ ok. no-good (ok i p f)) c
clear R n six a b c d e k x lt (bad_bindings no-good) = ⊎_elim (λ le. omega arith) no-good d
clear R n six a b c d e k x lt (bad_count no-good) = ⊎_elim (λ le. omega arith) no-good e
clear R n six a b c d e k x lt (bad_entry y f no-good) = omega arith
clear R n six a b c d e k x lt (bad_pair y f no-good) = omega arith

not_admitted : {R : Asked} {k : Refusal} {c : Culprit} → AtFault R k c → Admitted R → ⊥
not_admitted (store_broken no-good) ok = no-good ok.store
not_admitted (bad_pattern no-good) ok = no-good ok.pattern
not_admitted (bad_part {i = i} p e no-good) ok = no-good (ok.parts i p e)
not_admitted (bad_bindings no-good) ok = no-good ok.bindings
not_admitted (bad_count no-good) ok = no-good ok.count
not_admitted (bad_entry {j = j} x e no-good) ok = no-good (ok.entries j x e)
not_admitted (bad_pair {k = i} x e no-good) ok = no-good (ok.pairs i x e)

pub refuses : (R : Asked) (k : Refusal) (f : Fault) → Faulted R k f → Clear R (meaning k).number → Refuses R f
refuses R k f h free = record {
  fault = subst (λ q. Faulted R q f) (sym h.refusal) h;
  no_earlier = subst (λ q. Clear R (meaning q).number) (sym h.refusal) free;
  not_admitted = λ ok. not_admitted h.holds ok;
}

-- a stage of the check that refuses ends it, and the last stage settles it
pub broke : (R : Asked) (k : Refusal) (f g : Fault) (r : Result (Unit {0}) Fault) → r ≡ Err g → g ≡ f → Faulted R k f → Clear R (meaning k).number → Checked R r
broke R k f g r e same h free = subst (Checked R) (sym (e ∙ ap Err same)) (refuses R k f h free)

pub settled : (R : Asked) (r : Result (Unit {0}) Fault) → (EachPair R → Admitted R) → Clear R 6 → MatchResult r (λ _. EachPair R) (Faulted R BadEntry) → Checked R r
settled R (Ok x) all free ok = all ok
settled R (Err f) all free h = refuses R BadEntry f h free
