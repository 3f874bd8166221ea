-- What a list of a part's places decides.
use Rattle.std.proofs.Common.{◌≡◌, ℕ, ◌<◌, ◌≤◌, Bool, List, [], length, is_some, Some, None, Decides, Option, unwrap_or, refl, subst, arith, MatchOption}
use Rattle.std.specs.List.{slice_get, All}
use Rattle.std.proofs.lemmas.Option.{slice_get_within}
use Rattle.store.specs.declared.term.Term.{Term}
use Rattle.store.specs.Rules.{StoreRules}
use Rattle.store.specs.declared.fixed.Fixed.{Fixed}
use Rattle.store.specs.Tables.{Tables, term_at, children_in, kids}
use Rattle.store.proofs.Decided.{some_not_none, passed, refused, all_at}
use Rattle.request.specs.Asked.{Asked, part_at}
use Rattle.request.specs.Grounds.{Quantified, PartRules, PlaceBound, PartBound}
use Rattle.request.specs.Places.{Preorder}
use Rattle.request.proofs.Walks.{unique}

-- what the listing of a term's places answers
abbrev pub Lists : Tables → ℕ → Option (Fixed ℕ 64) → Type 0
Lists S t o = MatchOption o ((ts : List ℕ) → Preorder S t ts → 64 < length ts) (λ p. Preorder S t p × (length p ≤ 64))

pub part_decided : (S : Tables) (t : ℕ) (o : Option (Fixed ℕ 64)) → (Quantified S t → ⊥) → Lists S t o → Decides (is_some o) (PartRules S t)
part_decided S t None plain over = refused (PartRules S t) (λ r. let far = over r.places r.listed in omega (arith, r.few))
part_decided S t (Some p) plain got = passed (PartRules S t) (record { plain = plain; places = p; listed = got.0; few = got.1 })

-- the places are listed in one way only, so one list speaks for all
pub bound_decided : (R : Asked) (t : ℕ) (ts : List ℕ) (r : Bool) → Preorder R.store t ts → Decides r (All (PlaceBound R) ts) → Decides r (PartBound R t)
bound_decided R t ts r p d = (λ e us q. subst (All (PlaceBound R)) (unique p q) (d.0 e), λ all. d.1 (all ts p))

child_there : (S : Tables) (t i p : ℕ) (o : Option Term) → StoreRules S → term_at S t ≡ o → slice_get (unwrap_or (children_in S o) []) i ≡ Some p → p < length S.terms
child_there S t i p None ruled e f = absurd (some_not_none None p refl f)
child_there S t i p (Some x) ruled e f = omega (arith, slice_get_within S.terms t x e, all_at (λ c. c < t) (kids S x) i p (ruled.terms_ruled t x e).children_below f)

-- a part is a term of the store
pub part_there : (R : Asked) (i p : ℕ) → StoreRules R.store → part_at R i ≡ Some p → p < length R.store.terms
part_there R i p ruled e = child_there R.store R.pattern i p (term_at R.store R.pattern) ruled refl e
