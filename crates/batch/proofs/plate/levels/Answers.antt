use Rattle.typing.proofs.Lines.{adds_write, ended_later}
use Rattle.batch.proofs.plate.levels.Goals as goal

pub returns : goal.returns
returns g c = adds_write _ _ _ _ c.add_line.ensures.bytes (simp ended_later)
