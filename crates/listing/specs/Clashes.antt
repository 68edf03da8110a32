-- Names with one triple, by their numbers, which count from 1.
use Rattle.std.specs.Prelude.{◌≡◌, ◌≢◌, ℕ, ◌-◌, ◌<◌, ◌≤◌, List, length}
use Rattle.std.specs.List.{slice_get}

abbrev pub Triple : Type 0
Triple = ℕ × ℕ × ℕ

-- no two of the first n triples are equal
abbrev pub AreApart : ℕ → List Triple → Type 0
AreApart n triples = (i j : ℕ) → i < j → j < n → slice_get triples i ≢ slice_get triples j

-- the names a and b have one triple, and no two names before b have one
pub record IsFirstClash (triples : List Triple) (a b : ℕ) : Type 0 where
  pub counted : 1 ≤ a
  pub ordered : a < b
  pub listed : b ≤ length triples
  pub equal : slice_get triples (a - 1) ≡ slice_get triples (b - 1)
  pub first : AreApart (b - 1) triples
