-- Versions in their order: by major, then minor, then patch number.
use Rattle.std.specs.Prelude.{Bool, ◌==◌, ◌&&◌, ◌||◌, ℕ, nat_le, nat_lt}
use Rattle.version.specs.declared.Version.{Version}

-- the version is a.b.c or later
abbrev pub at_least : Version → ℕ → ℕ → ℕ → Bool
at_least v a b c = nat_lt a v.major || (v.major == a && (nat_lt b v.minor || (v.minor == b && nat_le c v.patch)))

-- the version is a.b.c or earlier
abbrev pub at_most : Version → ℕ → ℕ → ℕ → Bool
at_most v a b c = nat_lt v.major a || (v.major == a && (nat_lt v.minor b || (v.minor == b && nat_le v.patch c)))
