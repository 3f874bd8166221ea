-- The nodes that are same as a node. Assumes nothing.
use Rattle.std.specs.Prelude.{ℕ, Bool, not, ◌&&◌, List, ◌==◌, filter}
use Rattle.std.specs.List.{range_with_len}

-- those below a number, in order, without the node itself
abbrev pub same_below : (ℕ → ℕ → Bool) → ℕ → ℕ → List ℕ
same_below same n k = filter (λ other. not (other == n) && same n other) (range_with_len 0 k)
