use Rattle.std.proofs.Common.{◌≡◌, ℕ, ◌<◌, length, get_or}
use Rattle.ways.proofs.Marks.{Marked}
use Rattle.ways.proofs.list.each_once.Given as goal

abbrev pub invariant-loop-x : goal.invariant-loop-x
invariant-loop-x l = (length l.marks ≡ 1024)
    × ((j : ℕ) → j < l.x-index → get_or l.xs j 0 < length l.xs)
    × Marked (λ j. get_or l.xs j 0) l.x-index l.marks
