use Rattle.std.proofs.Common.{refl}
use Rattle.typing.proofs.Lines.{adds_write, ended_later}
use Rattle.worklist.proofs.report.ClashesEnding.end.Goals as goal

pub returns-in-Some : goal.returns-in-Some
returns-in-Some g c = adds_write _ _ _ _ c.add_line.ensures.bytes (simp ended_later)

pub returns-in-None : goal.returns-in-None
returns-in-None g c = adds_write _ _ _ _ c.add_line-in-None.ensures.bytes refl
