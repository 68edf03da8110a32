-- What a refusal by checks in their order means.
use Rattle.std.specs.Prelude.{◌≡◌, ℕ, ◌<◌, List, length, Some, None, Option, slice_index_or}
use Rattle.refusals.specs.Checks.{first, each}

-- one check is broken and gives the fault, and all earlier ones are met
pub record RefusedBy {F : Type 0} (os : List (Option F)) (f : F) : Type 0 where
  pub which : ℕ
  pub within : which < length os
  pub broken : slice_index_or os which None ≡ Some f
  pub earlier : (j : ℕ) → j < which → slice_index_or os j None ≡ None

-- of k numbered checks, the lowest that is broken gives the fault
pub record Lowest {F : Type 0} (check : ℕ → Option F) (k : ℕ) (f : F) : Type 0 where
  pub which : ℕ
  pub within : which < k
  pub broken : check which ≡ Some f
  pub lower : (j : ℕ) → j < which → check j ≡ None

-- for every type of faults
module _ (F : Type 0) where
  abbrev pub FirstBrokenRefuses : Type 0
  FirstBrokenRefuses = (os : List (Option F)) (f : F) → first os ≡ Some f → RefusedBy os f

  abbrev pub LowestBrokenRefuses : Type 0
  LowestBrokenRefuses = (check : ℕ → Option F) (k : ℕ) (f : F) → each check 0 k ≡ Some f → Lowest check k f

  -- where nothing is refused, every check is met
  abbrev pub AllMet : Type 0
  AllMet = (os : List (Option F)) → first os ≡ None → (j : ℕ) → slice_index_or os j None ≡ None
