-- Text that grows by whole lines.
use Rattle.std.specs.Prelude.{◌≡◌, ℕ, Bool, true, List, [], ◌∷◌, ◌++◌, ◌==◌}

-- whether the last of these bytes is a line's end; before them stands x
abbrev pub ended_from : ℕ → List ℕ → Bool
ended_from x [] = x == 10
ended_from x (y ∷ ys) = ended_from y ys

-- the text is empty, or its last byte is a line's end
abbrev pub is_ended : List ℕ → Bool
is_ended text = ended_from 10 text

-- the new text is the old one, with lines after it or none
pub record AddsLines (old new : List ℕ) : Type 0 where
  pub lines : List ℕ
  pub added : new ≡ old ++ lines
  pub ended : is_ended lines ≡ true
