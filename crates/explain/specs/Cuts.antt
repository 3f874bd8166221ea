-- Where bytes are cut: an input into lines, and a line into words. Assumes nothing.
use Rattle.std.specs.Prelude.{◌≡◌, ℕ, ◌<◌, Bool, true, false, ◌⊎◌, List, [], ◌∷◌, ◌++◌, length, Some, None, Option, ◌≢◌, slice_index}
use Rattle.std.specs.Char.{is_ascii_whitespace}
use Rattle.std.specs.List.{All}

-- no byte is the mark
abbrev pub Without : ℕ → List ℕ → Type 0
Without mark bs = All (λ b. b ≢ mark) bs

-- every byte is white space, or none is
abbrev pub White : Bool → List ℕ → Type 0
White w bs = All (λ b. is_ascii_whitespace b ≡ w) bs

-- the text of a line goes to the first '#', or to the end
abbrev pub Uncommented : List ℕ → List ℕ → Type 0
Uncommented line text = Without 35 text × ((line ≡ text) ⊎ ((comment : List ℕ) × (line ≡ text ++ (35 ∷ comment))))

-- the next line goes to the first line feed, which is left out, or to the end
abbrev pub NextLine : List ℕ → Option (List ℕ) → List ℕ → Type 0
NextLine bs None rest = bs ≡ []
NextLine bs (Some line) rest = Without 10 line × ((bs ≡ line ++ (10 ∷ rest)) ⊎ ((bs ≡ line) × (rest ≡ [])))

-- bs is white space, the word, and rest, which is empty or begins with white space
pub record FirstWord (bs word rest : List ℕ) : Type 0 where
  pub gap : List ℕ
  pub cut : bs ≡ gap ++ (word ++ rest)
  pub blank : White true gap
  pub some : 0 < length word
  pub solid : White false word
  pub ends : 0 < length rest → is_ascii_whitespace (slice_index rest 0) ≢ false

abbrev pub NextWord : List ℕ → Option (List ℕ) → List ℕ → Type 0
NextWord bs None rest = White true bs
NextWord bs (Some word) rest = FirstWord bs word rest
