use Rattle.std.proofs.Common.{◌≡◌}
use Rattle.sealing.specs.Sealing.{records_written}
use Rattle.sealing.proofs.write.write_records.Given as goal

abbrev pub invariant-loop-slot : goal.invariant-loop-slot
invariant-loop-slot g l = l.memory ≡ records_written g.N.Kind.spelling l.rows l.slots l.sizes.r l.slot l.initial.memory
