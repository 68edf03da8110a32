-- The minimal standard generator of Park and Miller, and the tables drawn from it.
use Rattle.std.specs.Prelude.{ℕ, zero, suc, ◌+◌, ◌-◌, ◌*◌, ◌%◌, List, [], ◌∷◌, slice_index}

-- one step: 16,807 times the state, modulo 2^31 - 1
abbrev pub next : ℕ → ℕ
next x = 16807 * x % 2147483647

-- the states after 1, 2, .. k steps from x
abbrev pub drawn : ℕ → ℕ → List ℕ
drawn zero x = []
drawn (suc k) x = next x ∷ drawn k (next x)

-- the state after k steps from x
abbrev pub after : ℕ → ℕ → ℕ
after zero x = x
after (suc k) x = after k (next x)

-- the tables of a seed: 3 functions, in each 16 places, in each 256 bytes;
-- shut, since 12,288 steps from a variable seed are not to be computed
unfoldable pub tables : ℕ → List ℕ
tables seed = drawn 12288 seed

-- the number of a function (0 to 2) for a place (1 to 16) and a byte
abbrev pub entry : List ℕ → ℕ → ℕ → ℕ → ℕ
entry t f place byte = slice_index t (f * 4096 + (place - 1) * 256 + byte)
