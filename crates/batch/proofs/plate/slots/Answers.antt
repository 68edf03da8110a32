use Rattle.typing.proofs.Lines.{adds_then, ended_later}
use Rattle.batch.proofs.plate.slots.Goals as goal

pub loop-row-preserved-in-Some-slot : goal.loop-row-preserved-in-Some-slot
loop-row-preserved-in-Some-slot g c = adds_then c.loop-row.invariant (record { lines = _; added = c.in_ok-add_line.ensures.bytes; ended = simp ended_later })
