use Rattle.std.specs.Prelude.{ℕ, ◌+◌, ◌*◌, ◌%◌, ◌<◌, ◌≤◌}
use Rattle.ways.specs.Divisors.{Coprime}
use Rattle.ways.specs.Permutation.{Meaning}

-- the rule of a stride way: size 1 to 1,024, start below the size, stride 1 to the size and coprime to it
abbrev pub StrideRule : ℕ → ℕ → ℕ → Type 0
StrideRule n s q = ((1 ≤ n) × (n ≤ 1024) × (s < n) × (1 ≤ q) × (q ≤ n)) × Coprime n q

-- the way of size n, start s and stride q
abbrev pub stride_meaning : ℕ → ℕ → ℕ → Meaning
stride_meaning n s q = record { size = n; rotation = λ l j. (l * s + j * q) % n }
