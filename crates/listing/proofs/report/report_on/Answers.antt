use Rattle.std.proofs.lemmas.Result.{on_ok_weaker}
use Rattle.typing.proofs.Lines.{adds_then, adds_write, ended_later}
use Rattle.listing.proofs.report.report_on.Goals as goal

pub returns-in_ok-way-in-Ok : goal.returns-in_ok-way-in-Ok
returns-in_ok-way-in-Ok g c =
    on_ok_weaker _ (λ ended. adds_then (adds_then (adds_then (adds_then c.in_ok-names.ensures (record { lines = _; added = c.in_ok-add_line.ensures.bytes; ended = simp ended_later })) c.in_ok-list-in-Ok.ensures) c.in_ok-way-in-Ok.ensures) ended) c.end.ensures

pub returns-in_ok-refusal-in-Err : goal.returns-in_ok-refusal-in-Err
returns-in_ok-refusal-in-Err g c =
    on_ok_weaker _ (λ ended. adds_then (adds_then c.in_ok-names.ensures (record { lines = _; added = c.in_ok-add_line.ensures.bytes; ended = simp ended_later })) ended) (adds_write _ _ _ _ c.add_line-in-Err.ensures.bytes (simp ended_later))
