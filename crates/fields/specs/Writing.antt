-- Bytes written into lent memory.
use Rattle.std.specs.Prelude.{◌≡◌, ℕ, ◌+◌, ◌≤◌, Bool, cond, ◌⊎◌, List, ◌++◌, length, take, drop}

-- bytes written into memory from a place on, the rest as it was
abbrev pub written : ℕ → List ℕ → List ℕ → List ℕ
written at xs old = take at old ++ (xs ++ drop (at + length xs) old)

-- the same if a test is met, else nothing written
abbrev pub written_if : Bool → ℕ → List ℕ → List ℕ → List ℕ
written_if b at xs old = cond b (written at xs old) old

-- the bytes from a place on, so many
abbrev pub part : ℕ → ℕ → List ℕ → List ℕ
part at len s = take len (drop at s)

-- what was written shows at its place
abbrev pub Shows : Type 0
Shows = (at : ℕ) (xs old : List ℕ) → at + length xs ≤ length old → part at (length xs) (written at xs old) ≡ xs

-- and any bytes before or behind it are as they were
abbrev pub Spares : Type 0
Spares =
    (at a k : ℕ) (xs old : List ℕ) → at + length xs ≤ length old →
    (a + k ≤ at) ⊎ (at + length xs ≤ a) → part a k (written at xs old) ≡ part a k old
