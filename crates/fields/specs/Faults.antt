-- What the writers of parts refuse.
use Rattle.std.specs.Prelude.{ℕ, Option, nat_le, nat_lt}
use Rattle.refusals.specs.Checks.{unless}
use Rattle.fields.specs.declared.fault.WriteFault.{WriteFault}
use Rattle.fields.specs.declared.fault.WriteFault.TheVariants.{NoSuchPlace, ShortMemory}

-- a vertex or a slot by its index, where there are so many
abbrev pub place_fault : ℕ → ℕ → Option WriteFault
place_fault index count = unless (nat_lt index count) NoSuchPlace

-- a part that ends at this byte, in memory of this length
abbrev pub room_fault : ℕ → ℕ → Option WriteFault
room_fault end room = unless (nat_le end room) ShortMemory
