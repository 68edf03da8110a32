use Rattle.std.specs.Prelude.{ℕ, List, length}
use Rattle.ways.specs.declared.fault.WayFault.{WayFault}
use Rattle.ways.specs.declared.fault.WayFault.TheVariants.{BrokenRule, NotEachOnce}
use Rattle.ways.specs.Listing.{Sized, EachOnce}

-- the number of each refusal of a way
abbrev pub number : WayFault → ℕ
number BrokenRule = 2
number NotEachOnce = 3

-- why a list makes no way: its size, or else that it does not hold each rotation once
abbrev pub ListRefused : List ℕ → WayFault → Type 0
ListRefused xs BrokenRule = Sized (length xs) → ⊥
ListRefused xs NotEachOnce = Sized (length xs) × (EachOnce xs → ⊥)
