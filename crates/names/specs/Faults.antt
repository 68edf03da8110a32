-- The number of each refusal of a name.
use Rattle.std.specs.Prelude.{ℕ}
use Rattle.names.specs.declared.fault.NameFault.{NameFault}
use Rattle.names.specs.declared.fault.NameFault.TheVariants.{OutsideRange}

abbrev pub number : NameFault → ℕ
number OutsideRange = 1
