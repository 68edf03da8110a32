-- What the tables hold, number by number.
use Rattle.std.specs.Prelude.{◌≡◌, ℕ, ◌+◌, ◌-◌, ◌*◌, ◌<◌, ◌≤◌}
use Rattle.hashing.specs.Generator.{after, tables, entry}

-- the number of a function for a place and a byte is the state after one step for each number up to it
abbrev pub TablesHoldTheDraws : Type 0
TablesHoldTheDraws =
    (seed f place byte : ℕ) → f < 3 → 1 ≤ place → place ≤ 16 → byte < 256 →
    entry (tables seed) f place byte ≡ after (f * 4096 + (place - 1) * 256 + byte + 1) seed

-- no number drawn from a seed is 0 or above 2,147,483,646
abbrev pub DrawsStayInRange : Type 0
DrawsStayInRange =
    (seed k : ℕ) → (1 ≤ seed) × (seed ≤ 2147483646) → (1 ≤ after k seed) × (after k seed ≤ 2147483646)
