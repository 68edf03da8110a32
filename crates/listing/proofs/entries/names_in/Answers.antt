use Rattle.typing.proofs.Lines.{adds_then}
use Rattle.listing.proofs.entries.names_in.Goals as goal

pub loop-at-preserved : goal.loop-at-preserved
loop-at-preserved g c = adds_then c.loop-at.invariant c.in_ok-unlisted-in-Err.ensures
