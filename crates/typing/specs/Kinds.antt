-- The kinds of names that a text chooses, by their numbers.
use Rattle.std.specs.Prelude.{◌≡◌, ◌≢◌, ℕ, Result, MatchResult}
use Rattle.typing.specs.declared.kinds.NameKind.{NameKind}
use Rattle.typing.specs.declared.kinds.NameKind.TheVariants as kind

abbrev pub kind_number : NameKind → ℕ
kind_number kind.PointNames = 1
kind_number kind.DayCells = 2

-- a number chooses the kind whose number it is, and an error says that it is no kind's
abbrev pub Chooses : {E : Type 0} → ℕ → Result NameKind E → Type 0
Chooses x r = MatchResult r (λ k. kind_number k ≡ x) (λ e. (k : NameKind) → kind_number k ≢ x)
