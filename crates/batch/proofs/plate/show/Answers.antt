use Rattle.std.proofs.lemmas.Result.{on_ok_weaker}
use Rattle.typing.proofs.Lines.{adds_then, adds_write, ended_later}
use Rattle.batch.proofs.plate.show.Goals as goal

pub returns : goal.returns
returns g c =
    on_ok_weaker _ (λ ended. adds_then (adds_then c.in_ok-levels.ensures c.in_ok-slots.ensures) ended) (adds_write _ _ _ _ c.add_line.ensures.bytes (simp ended_later))
