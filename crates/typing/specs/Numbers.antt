-- Numbers as words write them, in decimal digits; a plus may stand first.
use Rattle.std.specs.Prelude.{ℕ, cond, List, Some, Option, nat_lt}
use Rattle.std.specs.Str.Parse.{IsNumeral, digits_value, without_leading_plus}

-- the word writes a number
abbrev pub Writes : List ℕ → Type 0
Writes word = IsNumeral 10 (without_leading_plus word)

abbrev pub written_number : List ℕ → ℕ
written_number word = digits_value 10 (without_leading_plus word)

-- a number of 64 bits is read as itself, and a larger one as `beyond` says
abbrev pub read_as : Option ℕ → ℕ → Option ℕ
read_as beyond n = cond (nat_lt n 18446744073709551616) (Some n) beyond
