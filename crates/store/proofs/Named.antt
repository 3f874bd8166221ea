-- A symbol that has the name of a later one, found among those before it.
use Rattle.std.proofs.Common.{◌≡◌, ℕ, ◌<◌, Bool, List, length, take, Some, None, Decides, Option, sym, refl, ap, ◌∙◌, arith}
use Rattle.std.specs.List.{slice_get, Any}
use Rattle.std.proofs.lemmas.List.{get_or-take, length-take-le}
use Rattle.std.proofs.lemmas.Option.{slice_get-get_or, get_or_from_slice_get, slice_get_within}
use Rattle.store.specs.declared.span.Span.{Span}
use Rattle.store.specs.Rules.{NamedBefore}
use Rattle.store.specs.Spans.{cells_of}
use Rattle.store.specs.Tables.{Tables, name_of, name_in}
use Rattle.store.proofs.Decided.{nth_there, some_not_none}

abbrev pub HasText : Tables → List ℕ → Span → Type 0
HasText S name s = cells_of S.names s ≡ Some name

there : (S : Tables) (o : Option Span) (name : List ℕ) → name_in S o ≡ Some name → (s : Span) × (o ≡ Some s)
there S None name e = absurd (some_not_none None name refl e)
there S (Some s) name e = (s, refl)

module _ (S : Tables) (j : ℕ) (name : List ℕ) (here : name_of S j ≡ Some name) where
  inside : j < length S.symbols
  inside = let read = there S (slice_get S.symbols j) name here in slice_get_within S.symbols j read.0 read.1

  among_earlier : Any (HasText S name) (take j S.symbols) → NamedBefore S j
  among_earlier a =
      let earlier : a.0 < j = omega (arith, a.2, length-take-le j S.symbols (omega (arith, inside))) in
      let read = slice_get-get_or S.symbols a.0 a.1 (omega (arith, earlier, inside)) ∙ ap Some (sym (get_or-take j S.symbols a.0 a.1 earlier) ∙ a.3) in
      record { other = a.0; name = name; earlier = earlier; there = ap (name_in S) read ∙ a.4; here = here }

  named_earlier : NamedBefore S j → Any (HasText S name) (take j S.symbols)
  named_earlier b =
      let read = nth_there S.symbols b.other (omega (arith, b.earlier, inside)) in (
        b.other,
        read.0,
        omega (arith, b.earlier, length-take-le j S.symbols (omega (arith, inside))),
        get_or-take j S.symbols b.other read.0 b.earlier ∙ get_or_from_slice_get S.symbols b.other read.0 read.0 read.1,
        ap (name_in S) (sym read.1) ∙ b.there ∙ sym b.here ∙ here,
      )

  pub named_before : (b : Bool) → Decides b (Any (HasText S name) (take j S.symbols)) → Decides b (NamedBefore S j)
  named_before b d = (λ e. among_earlier (d.0 e), λ n. d.1 (named_earlier n))
