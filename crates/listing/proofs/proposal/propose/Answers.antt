use Rattle.typing.proofs.Lines.{adds_then, ended_later}
use Rattle.listing.proofs.proposal.propose.Goals as goal

pub returns-in-Ok : goal.returns-in-Ok
returns-in-Ok c = adds_then c.loop-stride.invariant (record { lines = _; added = c.in_ok-add_line.ensures.bytes; ended = simp ended_later })

pub loop-stride-preserved : goal.loop-stride-preserved
loop-stride-preserved c = adds_then c.loop-stride.invariant (record { lines = _; added = c.in_ok-add_line.ensures.bytes; ended = simp ended_later })

pub returns-in_default : goal.returns-in_default
returns-in_default c = adds_then c.loop-stride.invariant (record { lines = _; added = c.in_ok-add_line.ensures.bytes; ended = simp ended_later })
