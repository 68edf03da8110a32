-- Memory after its tables are filled.
use Rattle.std.specs.Prelude.{ℕ, cond, List, ◌++◌, length, drop, nat_le}
use Rattle.hashing.specs.Generator.{tables}

-- the tables of the seed, and what lay beyond them; memory that is short stays as it was
abbrev pub filled : ℕ → List ℕ → List ℕ
filled seed memory = cond (nat_le 12288 (length memory)) (tables seed ++ drop 12288 memory) memory
