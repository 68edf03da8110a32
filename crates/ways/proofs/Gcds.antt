-- Numbers are coprime if their greatest common divisor is 1. Assumes nothing.
use Rattle.std.proofs.Common.{◌≡◌, ℕ, ◌%◌, sym, ap, ◌∙◌, mod-eq_of_lt, arith}
use Rattle.ways.specs.Divisors.{Coprime, Gcd}

pub one_coprime : (a b g : ℕ) → Gcd a b g → g ≡ 1 → Coprime a b
one_coprime a b g h one d hd ha hb =
    let z : ◌≡◌ {A = ℕ} 1 0 = sym (mod-eq_of_lt hd) ∙ ap (λ t. t % d) (sym one) ∙ h.most d ha hb in
    omega arith
