-- The sums over a spelling, and the triple that they give a name.
use Rattle.std.specs.Prelude.{ℕ, suc, ◌+◌, ◌%◌, cond, ◌&&◌, List, [], ◌∷◌, length, Some, None, Option, nat_le}
use Rattle.names.specs.Spellings.{in_range}
use Rattle.hashing.specs.Generator.{entry}

-- the sum of a function's numbers over bytes, the first of which stands at `place`
abbrev pub sum_from : List ℕ → ℕ → ℕ → List ℕ → ℕ
sum_from t f place [] = 0
sum_from t f place (b ∷ bs) = entry t f place b + sum_from t f (suc place) bs

-- S0, S1 and S2 of a spelling: its places count from 1
abbrev pub sum : List ℕ → ℕ → List ℕ → ℕ
sum t f s = sum_from t f 1 s

-- what a name is hashed to: h0 is the first number, h1 and h2 are the vertices that its edge joins
pub record Triple : Type 0 where
  pub h0 : ℕ
  pub h1 : ℕ
  pub h2 : ℕ

-- the triple of a spelling among n names, with r vertices on each side
abbrev pub triple : List ℕ → ℕ → ℕ → List ℕ → Triple
triple t n r s = record { h0 = sum t 0 s % n; h1 = sum t 1 s % r; h2 = r + sum t 2 s % r }

-- its three numbers as a tuple
abbrev pub members : Triple → ℕ × ℕ × ℕ
members e = (e.h0, e.h1, e.h2)

-- the triple of 1 to 16 bytes from tables that are long enough, or none
abbrev pub hashed : List ℕ → ℕ → ℕ → List ℕ → Option (ℕ × ℕ × ℕ)
hashed t n r s = cond (nat_le 12288 (length t) && in_range 1 16 (length s)) (Some (members (triple t n r s))) None
