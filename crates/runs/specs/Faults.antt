-- The numbers of the refusals of a pressing, and what they carry.
use Rattle.std.specs.Prelude.{ℕ, Some, None, Option}
use Rattle.hashing.specs.declared.fault.HashFault.{HashFault}
use Rattle.hashing.specs.declared.fault.HashFault.TheVariants as hash
use Rattle.runs.specs.declared.fault.PressFault.{PressFault}
use Rattle.runs.specs.declared.fault.PressFault.TheVariants.{WrongStage, ShortList, TooManyNames, SpellingEntered, WaySize, NoName, VertexCount, Seed, Clash, Unfit, ShortString}

abbrev pub number : PressFault → ℕ
number WrongStage = 10
number ShortList = 11
number TooManyNames = 12
number SpellingEntered = 13
number WaySize = 14
number NoName = 15
number VertexCount = 16
number Seed = 17
number Clash = 18
number (Unfit level) = 19
number ShortString = 20

-- the level of an unfit one; the others carry nothing
abbrev pub carried : PressFault → Option ℕ
carried WrongStage = None
carried ShortList = None
carried TooManyNames = None
carried SpellingEntered = None
carried WaySize = None
carried NoName = None
carried VertexCount = None
carried Seed = None
carried Clash = None
carried (Unfit level) = Some level
carried ShortString = None

-- the refusal of a pressing for one of hashing
abbrev pub of_hashing : HashFault → PressFault
of_hashing hash.ShortTables = ShortList
of_hashing hash.TooManyNames = TooManyNames
of_hashing hash.NoName = NoName
of_hashing hash.VertexCount = VertexCount
of_hashing hash.SeedRange = Seed
