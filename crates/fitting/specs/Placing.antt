-- The slots of a level: which rotation fits them, and how they are filled.
use Rattle.std.specs.Prelude.{◌≡◌, ℕ, ◌+◌, ◌%◌, ◌<◌, List, [], ◌∷◌, map, length, is_some, Some, None, Option, ◌≢◌, slice_index, slice_index_or, slice_set}
use Rattle.ways.specs.Permutation.{Meaning, asked}
use Rattle.runs.specs.Lists.{among}
use Rattle.runs.specs.Fitting.{first_fit}
use Rattle.fitting.specs.declared.level.LevelName.{LevelName}

abbrev pub offsets : List LevelName → List ℕ
offsets level = map (λ x. x.offset) level

-- no two places hold one number mod n
abbrev pub Apart : ℕ → List ℕ → Type 0
Apart n bs = (j k : ℕ) → (j < k) × (k < length bs) × (slice_index bs j % n ≡ slice_index bs k % n) → ⊥

-- the slots that hold a row are the filled ones
abbrev pub FilledAre : List ℕ → List (Option ℕ) → Type 0
FilledAre filled slots = (s : ℕ) → s < length slots → is_some (slice_index_or slots s None) ≡ among s filled

-- what a search for a rotation answers: that of the rules, wherever the slots hold what is filled
pub record Tried (w : Meaning) (level : ℕ) (bs : List ℕ) (slots : List (Option ℕ)) (o : Option (ℕ × ℕ)) : Type 0 where
  pub other_size : (w.size ≢ length slots) → o ≡ None
  pub first : w.size ≡ length slots → (filled : List ℕ) → FilledAre filled slots → o ≡ first_fit (length slots) (asked w level) filled bs (length slots) 0

-- each name's row in its slot, one name after the other
abbrev pub placed : ℕ → List LevelName → List (Option ℕ) → List (Option ℕ)
placed v [] slots = slots
placed v (x ∷ xs) slots = placed v xs (slice_set slots ((x.offset + v) % length slots) (Some x.row))
