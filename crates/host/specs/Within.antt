-- Classes read from tables hold nodes only.
use Rattle.std.specs.Prelude.{◌≡◌, ℕ, ◌<◌, Bool, true, ◌&&◌, List, nat_lt}
use Rattle.std.proofs.lemmas.Bool.{ltb-true, and_parts}
use Rattle.host.specs.Reading.{numbered, linked}

both_below : (a b n : ℕ) (rest : Bool) → (nat_lt a n && (nat_lt b n && rest)) ≡ true → (a < n) × (b < n)
both_below a b n rest e =
    let p = and_parts (nat_lt a n) (nat_lt b n && rest) e in
    let q = and_parts (nat_lt b n) rest p.1 in
    (ltb-true a n p.0, ltb-true b n q.0)

pub numbered_within : (labels : List ℕ) (nodes a b : ℕ) → numbered nodes labels a b ≡ true → (a < nodes) × (b < nodes)
numbered_within labels nodes a b e = both_below a b nodes _ e

pub linked_within : (links : List ℕ) (nodes a b : ℕ) → linked nodes links a b ≡ true → (a < nodes) × (b < nodes)
linked_within links nodes a b e = both_below a b nodes _ e
