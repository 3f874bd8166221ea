-- What the rewriter of a kind means.
use Rattle.std.specs.Prelude.{List, [], ℕ}
use Rattle.store.specs.Tables.{Tables}
use Rattle.request.specs.declared.kinds.Pair.{Pair}
use Rattle.rewrite.specs.Kinds.{basic, complex, custom, force}
use Rattle.rewrite.specs.Keeping.{basic_rules, complex_rules, custom_rules, force_rules}
use Rattle.rewrite.specs.Meaning.{RewriterMeaning, OfferRules}
use Rattle.kind.specs.declared.kind.Kind.{Kind}
use Rattle.kind.specs.declared.kind.Kind.TheVariants as kinds
use Rattle.kind.specs.declared.kind.AnyEq.{AnyEq}
use Rattle.kind.specs.declared.kind.AnyEq.TheVariants.{Basic, Complex, Custom, Force}

-- by kind, an entry's own pairs and the booked ones, which only ForceEq reads
abbrev pub of_kind : Kind → List Pair → List Pair → Tables → RewriterMeaning
of_kind kinds.Basic own booked S = basic own S
of_kind kinds.Complex own booked S = complex own [] S
of_kind kinds.Custom own booked S = custom (complex own [] S)
of_kind kinds.Force own booked S = force (complex own booked S)

abbrev pub chosen : AnyEq → Tables → RewriterMeaning
chosen (Basic r) = λ S. basic r.pairs.now S
chosen (Complex r) = λ S. complex r.own.now r.booked.now S
chosen (Custom r) = λ S. custom (complex r.inner.own.now r.inner.booked.now S)
chosen (Force r) = λ S. force (complex r.inner.own.now r.inner.booked.now S)

-- only BasicEq has more than one state
abbrev pub chosen_state : AnyEq → ℕ
chosen_state (Basic r) = r.at
chosen_state (Complex r) = 0
chosen_state (Custom r) = 0
chosen_state (Force r) = 0

pub chosen_rules : (x : AnyEq) (S : Tables) → OfferRules S (chosen x S)
chosen_rules (Basic r) S = basic_rules r.pairs.now S
chosen_rules (Complex r) S = complex_rules r.own.now r.booked.now S
chosen_rules (Custom r) S = custom_rules S _ (complex_rules r.inner.own.now r.inner.booked.now S)
chosen_rules (Force r) S = force_rules S _ (complex_rules r.inner.own.now r.inner.booked.now S)
