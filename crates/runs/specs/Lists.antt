-- Lists in which something stands, or stands twice.
use Rattle.std.specs.Prelude.{ℕ, ◌<◌, Bool, false, ◌||◌, List, [], ◌∷◌, length, ◌≢◌, nat_eq, slice_index_or}

-- by a test of sameness, x stands in a list
abbrev pub has : {X : Type 0} → (X → X → Bool) → X → List X → Bool
has same x [] = false
has same x (y ∷ ys) = same x y || has same x ys

-- and some element stands in it twice
abbrev pub repeats : {X : Type 0} → (X → X → Bool) → List X → Bool
repeats same [] = false
repeats same (x ∷ xs) = has same x xs || repeats same xs

abbrev pub among : ℕ → List ℕ → Bool
among v vs = has nat_eq v vs

-- no two places hold one element; d is what is read past the end
abbrev pub Distinct : {X : Type 0} → X → List X → Type 0
Distinct d xs = (i j : ℕ) → i < j → j < length xs → slice_index_or xs i d ≢ slice_index_or xs j d
