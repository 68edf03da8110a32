use Rattle.std.specs.Prelude.{◌≡◌, ℕ, ◌<◌, ◌≤◌, List, length, slice_index}
use Rattle.ways.specs.Permutation.{Meaning}

-- no two places of the list hold the same number
abbrev pub Different : List ℕ → Type 0
Different xs = (j k : ℕ) → (j < k) × (k < length xs) × (slice_index xs j ≡ slice_index xs k) → ⊥

-- the list holds each number below its length once: n numbers below n, all different
abbrev pub EachOnce : List ℕ → Type 0
EachOnce xs = ((j : ℕ) → j < length xs → slice_index xs j < length xs) × Different xs

-- a size from 1 to 1,024
abbrev pub Sized : ℕ → Type 0
Sized n = (1 ≤ n) × (n ≤ 1024)

-- the rule of a list way
abbrev pub Listed : List ℕ → Type 0
Listed xs = Sized (length xs) × EachOnce xs

-- the way of a list, the same at every level
abbrev pub list_meaning : List ℕ → Meaning
list_meaning xs = record { size = length xs; rotation = λ l j. slice_index xs j }
