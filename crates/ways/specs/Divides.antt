-- Divisors of a remainder. Assumes nothing.
use Rattle.std.specs.Prelude.{◌≡◌, ℕ, ◌%◌}
use Rattle.std.proofs.Math.Nat.{dvd-mod_iff, dvd_of_mod-eq-zero, mod-eq-zero_of_dvd}

-- what divides a and b divides a % b
pub mod_divides : (a b d : ℕ) → a % d ≡ 0 → b % d ≡ 0 → (a % b) % d ≡ 0
mod_divides a b d ha hb = mod-eq-zero_of_dvd d ((dvd-mod_iff d (dvd_of_mod-eq-zero d hb)).1 (dvd_of_mod-eq-zero d ha))

-- what divides b and a % b divides a
pub mod_divided : (a b d : ℕ) → b % d ≡ 0 → (a % b) % d ≡ 0 → a % d ≡ 0
mod_divided a b d hb hr = mod-eq-zero_of_dvd d ((dvd-mod_iff d (dvd_of_mod-eq-zero d hb)).0 (dvd_of_mod-eq-zero d hr))
