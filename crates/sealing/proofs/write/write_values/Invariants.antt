use Rattle.std.proofs.Common.{◌≡◌}
use Rattle.sealing.specs.Sealing.{values_written}
use Rattle.sealing.proofs.write.write_values.Given as goal

abbrev pub invariant-loop-index : goal.invariant-loop-index
invariant-loop-index l = l.memory ≡ values_written l.vertices l.index l.initial.memory
