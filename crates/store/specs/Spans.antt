-- Spans of a table: offset and length.
use Rattle.std.specs.Prelude.{◌≡◌, ℕ, ◌+◌, ◌<◌, ◌≤◌, cond, List, length, take, drop, Some, None, Option, nat_le}
use Rattle.std.specs.List.{slice_get}
use Rattle.store.specs.declared.span.Span.{Span}

-- the cells of a span that lies inside its table
abbrev pub cells_of : {X : Type 0} → List X → Span → Option (List X)
cells_of xs s = cond (nat_le (s.offset + s.len) (length xs)) (Some (take s.len (drop s.offset xs))) None

-- cell c is one of the span's
pub record Covers (s : Span) (c : ℕ) : Type 0 where
  pub from : s.offset ≤ c
  pub until : c < s.offset + s.len

-- the spans of a table of this size: each inside it, sorted by offset, no cell in two of them
pub record Laid (spans : List Span) (size : ℕ) : Type 0 where
  pub inside : (i : ℕ) (s : Span) → slice_get spans i ≡ Some s → s.offset + s.len ≤ size
  pub sorted : (i j : ℕ) (s u : Span) → i < j → slice_get spans i ≡ Some s → slice_get spans j ≡ Some u → s.offset ≤ u.offset
  pub apart : (i j : ℕ) (s u : Span) (c : ℕ) → i < j → slice_get spans i ≡ Some s → slice_get spans j ≡ Some u → Covers s c → Covers u c → ⊥

-- the span may stand behind spans of which this is the last offset, and this the furthest end of one that is not empty
pub record Fits (size last end : ℕ) (s : Span) : Type 0 where
  pub after : last ≤ s.offset
  pub inside : s.offset + s.len ≤ size
  pub clear : 0 < s.len → end ≤ s.offset
