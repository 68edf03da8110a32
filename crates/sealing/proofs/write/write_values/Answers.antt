use Rattle.std.proofs.Common.{arith}
use Rattle.sealing.proofs.Turns.{value_more}
use Rattle.sealing.proofs.write.write_values.Goals as goal

pub loop-index-preserved : goal.loop-index-preserved
loop-index-preserved c =
    value_more c.loop-index.memory c.args.vertices.now c.loop-index.index c.args.memory.now (omega arith) (omega arith) c.loop-index.invariant c.write_value.ensures.memory
