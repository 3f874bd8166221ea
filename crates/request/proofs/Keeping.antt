-- What an admitted request gives to those that read it.
use Rattle.std.proofs.Common.{◌≡◌, ℕ, ◌+◌, ◌<◌, length, take, drop, Some, None, Option, refl, ap, ◌∙◌, subst, arith, length-take}
use Rattle.std.specs.List.{slice_get}
use Rattle.std.proofs.lemmas.Bool.{le-leb, cond-true}
use Rattle.store.specs.declared.term.ENode.{ENode}
use Rattle.store.specs.Tables.{Tables, owner_in}
use Rattle.store.proofs.Decided.{some_not_none, same_some, nth_there, all_at}
use Rattle.request.specs.Asked.{Asked, parts, term_of, pairs_in}
use Rattle.request.specs.Grounds.{Admitted}
use Rattle.request.specs.Laws.{PartLaw, EntryLaw, AdmittedKeeps}
use Rattle.request.proofs.Parts.{part_there}

part_law : (R : Asked) → Admitted R → (i : ℕ) → i < length (parts R) → PartLaw R i
part_law R ok i h =
    let got = nth_there (parts R) i h in
    let good = ok.parts i got.0 got.1 in
    record {
      term = got.0;
      places = good.places;
      at = got.1;
      there = part_there R i got.0 ok.store got.1;
      tree = good.listed;
      few = good.few;
      plain = good.plain;
      bound = ok.bindings.closed i got.0 got.1 good.places good.listed;
    }

entry_law : (R : Asked) → Admitted R → (j : ℕ) → j < length R.entries → EntryLaw R j
entry_law R ok j h =
    let got = nth_there R.entries j h in
    let good = ok.entries j got.0 got.1 in
    let s = got.0.pairs in
    record {
      term = good.term;
      pairs = take s.len (drop s.offset R.pairs);
      owned = ap (term_of R.store) got.1 ∙ good.owned;
      closed = good.closed;
      logged = ap (pairs_in R) got.1 ∙ cond-true _ _ _ (le-leb (s.offset + s.len) (length R.pairs) good.inside);
      few = omega (arith, length-take s.len (drop s.offset R.pairs), good.few);
    }

owner_there : (S : Tables) (t : ℕ) (o : Option ENode) → ((x : ENode) → o ≡ Some x → x.owner < length S.terms) → owner_in o ≡ Some t → t < length S.terms
owner_there S t None h e = absurd (some_not_none None t refl e)
owner_there S t (Some x) h e = subst (λ n. n < length S.terms) (same_some _ _ _ refl e) (h x refl)

pub admitted_keeps : AdmittedKeeps
admitted_keeps R ok = record {
  each_part = part_law R ok;
  each_entry = entry_law R ok;
  owners_there = λ n t e. owner_there R.store t (slice_get R.store.nodes n) (λ x f. all_at (λ y. y.owner < length R.store.terms) R.store.nodes n x ok.store.owners_listed f) e;
}
