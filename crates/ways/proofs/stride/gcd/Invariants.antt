use Rattle.std.proofs.Common.{◌≡◌, ℕ, ◌%◌}
use Rattle.ways.proofs.stride.gcd.Given as goal

-- what divides both of the two at hand divides both of the two that were given, and the other way round
abbrev pub invariant-loop-y : goal.invariant-loop-y
invariant-loop-y l = ((d : ℕ) → l.x % d ≡ 0 → l.y % d ≡ 0 → (l.a % d ≡ 0) × (l.b % d ≡ 0))
    × ((d : ℕ) → l.a % d ≡ 0 → l.b % d ≡ 0 → (l.x % d ≡ 0) × (l.y % d ≡ 0))

abbrev pub decreases-loop-y : goal.decreases-loop-y
decreases-loop-y l = l.y
