-- What may be given once. Assumes nothing.
use Rattle.std.specs.Prelude.{◌≡◌, true, is_some, Some, None, Option, Result, MatchResult}

-- the first value is taken, and a second is refused, and the first stays
abbrev pub Once : {X T E : Type 0} → Result T E → Option X → Option X → X → Type 0
Once r before after x = MatchResult r (λ _. (before ≡ None) × (after ≡ Some x)) (λ _. (is_some before ≡ true) × (after ≡ before))
