-- A word of decimal digits, and the number that it writes. Assumes nothing.
use Rattle.std.specs.Prelude.{ℕ, ◌+◌, ◌-◌, ◌*◌, ◌^◌, ◌<◌, ◌≤◌, List, length, fold}
use Rattle.std.specs.List.{All}

-- the bytes '0' to '9'
abbrev pub Digit : ℕ → Type 0
Digit b = (48 ≤ b) × (b ≤ 57)

-- the number whose digits are those of n and then b
abbrev pub then_digit : ℕ → ℕ → ℕ
then_digit n b = n * 10 + (b - 48)

-- the number that the digits write
abbrev pub value : List ℕ → ℕ
value w = fold then_digit 0 w

-- a word that a number is read from: digits, at least one, with a value that 64 bits hold
abbrev pub Numeral : List ℕ → Type 0
Numeral w = (0 < length w) × All Digit w × (value w < 2 ^ 64)
