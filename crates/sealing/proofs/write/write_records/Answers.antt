use Rattle.sealing.proofs.Turns.{record_more}
use Rattle.sealing.proofs.write.write_records.Goals as goal

pub loop-slot-preserved : goal.loop-slot-preserved
loop-slot-preserved g c =
    record_more g.N.Kind.spelling c.args.rows.now c.args.slots.now c.args.sizes.r c.loop-slot.slot c.args.memory.now c.loop-slot.invariant c.write_slot.ensures
