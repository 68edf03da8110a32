-- Bytes and numbers in bytes.
use Rattle.std.specs.Prelude.{ℕ, ◌+◌, ◌*◌, ◌<◌, Bool, ◌&&◌, List, nat_le, slice_index}

-- every number of the list is a byte
abbrev pub Bytes : List ℕ → Type 0
Bytes s = (k : ℕ) → slice_index s k < 256

-- two bytes at a place, counted from 0, high byte first
abbrev pub two_at : List ℕ → ℕ → ℕ
two_at s at = slice_index s at * 256 + slice_index s (at + 1)

-- from low to high, both included
abbrev pub in_range : ℕ → ℕ → ℕ → Bool
in_range low high x = nat_le low x && nat_le x high
