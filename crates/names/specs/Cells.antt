-- Day cells: how one is spelled, and which bytes spell one.
use Rattle.std.specs.Prelude.{ℕ, ◌/◌, ◌%◌, Bool, ◌&&◌, List, [], ◌∷◌, length, Option, ◌==◌}
use Rattle.refusals.specs.Checks.{unless}
use Rattle.names.specs.Spellings.{in_range, two_at}
use Rattle.names.specs.declared.fault.NameFault.{NameFault}
use Rattle.names.specs.declared.fault.NameFault.TheVariants.{OutsideRange}

-- a pan is from 1 to 999 and a day from 1 to 366
abbrev pub is_cell : ℕ → ℕ → Bool
is_cell pan day = in_range 1 999 pan && in_range 1 366 day

abbrev pub cell_fault : ℕ → ℕ → Option NameFault
cell_fault pan day = unless (is_cell pan day) OutsideRange

-- two bytes for the pan and two for the day, high byte first
abbrev pub cell_spelling : ℕ → ℕ → List ℕ
cell_spelling pan day = pan / 256 ∷ pan % 256 ∷ day / 256 ∷ day % 256 ∷ []

-- four bytes whose numbers are a pan and a day
abbrev pub cell_judged : List ℕ → Bool
cell_judged s = length s == 4 && is_cell (two_at s 0) (two_at s 2)
