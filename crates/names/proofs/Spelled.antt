-- Places of a spelling, which count from 1.
use Rattle.std.proofs.Common.{◌≡◌, ℕ, ◌+◌, List, ◌∷◌, get_or, refl, add-one}

-- places count from 1
pub at_place : (xs : List ℕ) (i : ℕ) → get_or (0 ∷ xs) (i + 1) 0 ≡ get_or xs i 0
at_place xs i = rw add-one refl
