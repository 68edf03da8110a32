-- Point names: which bytes are one.
use Rattle.std.specs.Prelude.{ℕ, Bool, ◌&&◌, List, length, Option}
use Rattle.std.specs.List.{list_all}
use Rattle.refusals.specs.Checks.{unless}
use Rattle.names.specs.Spellings.{in_range}
use Rattle.names.specs.declared.fault.NameFault.{NameFault}
use Rattle.names.specs.declared.fault.NameFault.TheVariants.{OutsideRange}

-- every byte is from 33 to 126: printed, and no space
abbrev pub all_visible : List ℕ → Bool
all_visible s = list_all (in_range 33 126) s

-- 1 to 16 such bytes
abbrev pub point_judged : List ℕ → Bool
point_judged s = in_range 1 16 (length s) && all_visible s

abbrev pub point_fault : List ℕ → Option NameFault
point_fault s = unless (point_judged s) OutsideRange
