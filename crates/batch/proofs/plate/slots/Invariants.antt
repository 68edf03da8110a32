use Rattle.std.proofs.Common.{string_bytes}
use Rattle.typing.specs.Lines.{AddsLines}
use Rattle.batch.proofs.plate.slots.Given as goal

-- whole lines are added so far
abbrev pub invariant-loop-row : goal.invariant-loop-row
invariant-loop-row g l = AddsLines (string_bytes l.fn.out) (string_bytes l.out)
