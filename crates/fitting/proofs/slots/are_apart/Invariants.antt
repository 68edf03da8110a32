use Rattle.std.proofs.Common.{◌≡◌, ◌%◌, length, get_or}
use Rattle.ways.proofs.Marks.{Marked}
use Rattle.fitting.specs.Placing.{offsets}
use Rattle.fitting.proofs.slots.are_apart.Given as goal

-- the offsets so far are different, and marked
abbrev pub invariant-loop-name : goal.invariant-loop-name
invariant-loop-name l = (length l.marks ≡ 1024) × Marked (λ j. get_or (offsets l.level) j 0 % l.n) l.name-index l.marks
