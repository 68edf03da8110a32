-- What hashing refuses, with the number of each refusal.
use Rattle.std.specs.Prelude.{ℕ, [], ◌∷◌, Option, nat_le}
use Rattle.refusals.specs.Checks.{unless, first}
use Rattle.names.specs.Spellings.{in_range}
use Rattle.hashing.specs.declared.fault.HashFault.{HashFault}
use Rattle.hashing.specs.declared.fault.HashFault.TheVariants.{ShortTables, TooManyNames, NoName, VertexCount, SeedRange}

abbrev pub number : HashFault → ℕ
number ShortTables = 11
number TooManyNames = 12
number NoName = 15
number VertexCount = 16
number SeedRange = 17

-- table memory of this length
abbrev pub room_fault : ℕ → Option HashFault
room_fault room = unless (nat_le 12288 room) ShortTables

abbrev pub seed_fault : ℕ → Option HashFault
seed_fault seed = unless (in_range 1 2147483646 seed) SeedRange

abbrev pub sizes_fault : ℕ → ℕ → Option HashFault
sizes_fault n r = first (unless (nat_le n 1024) TooManyNames ∷ unless (nat_le 1 n) NoName ∷ unless (in_range 1 1024 r) VertexCount ∷ [])
