-- The tables that a host's lines give. Assumes nothing.
use Rattle.std.specs.Prelude.{◌≡◌, ℕ, ◌-◌, ◌^◌, List, fold, replicate, slice_set}
use Rattle.std.proofs.Common.{Bor}

-- a table in which no line gives a number
abbrev pub none_given : ℕ → List ℕ
none_given size = replicate size (2 ^ 64 - 1)

-- each line in order gives its number at its place, so the last for a place counts, and one for a place past the end gives nothing
abbrev pub given : {L : Type 0} → (L → ℕ) → (L → ℕ) → List ℕ → List L → List ℕ
given place number table lines = fold (λ filled line. slice_set filled (place line) (number line)) table lines

-- what the calls give at a line is what the function says of it
abbrev pub Reads : {L : Type 0} → (Bor L → ℕ → Type 0) → (L → ℕ) → Type 0
Reads gives read = (line : Bor _) (n : ℕ) → gives line n → n ≡ read line.now
