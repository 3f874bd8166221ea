-- How a kind is written, and which word names which kind.
use Rattle.std.specs.Prelude.{◌≢◌, ◌≡◌, ℕ, List, codes, Ok, Err, Result}
use Rattle.kind.specs.declared.kind.Kind.{Kind}
use Rattle.kind.specs.declared.kind.Kind.TheVariants.{Basic, Complex, Custom, Force}
use Rattle.kind.specs.declared.kind.NotAKind.{NotAKind}

abbrev pub word : Kind → List ℕ
word Basic = codes "basic"
word Complex = codes "complex"
word Custom = codes "custom"
word Force = codes "force"

abbrev pub Reads : List ℕ → Result Kind NotAKind → Type 0
Reads bytes (Ok k) = bytes ≡ word k
Reads bytes (Err e) = (k : Kind) → bytes ≢ word k
