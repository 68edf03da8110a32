use Rattle.std.specs.Prelude.{◌≡◌, ℕ, ◌%◌, ◌<◌, ◌≢◌}

-- a and b share no divisor above 1
abbrev pub Coprime : ℕ → ℕ → Type 0
Coprime a b = (d : ℕ) → 1 < d → a % d ≡ 0 → b % d ≢ 0

-- g is the greatest common divisor: it divides both, and what divides both divides g
pub record Gcd (a b g : ℕ) : Type 0 where
  pub left : a % g ≡ 0
  pub right : b % g ≡ 0
  pub most : (d : ℕ) → a % d ≡ 0 → b % d ≡ 0 → g % d ≡ 0
