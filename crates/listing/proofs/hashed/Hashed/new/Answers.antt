use Rattle.typing.proofs.Lines.{adds_then, ended_later}
use Rattle.listing.proofs.hashed.Hashed.new.Goals as goal
use Rattle.listing.proofs.hashed.Hashed.new.Goals.{in-Some+in_ok-name+in_ok-add_line+in_ok-push, in_default}

pub loop-row-preserved : goal.loop-row-preserved
loop-row-preserved g c = elim c.match-triple_of.branch [
  | in-Some+in_ok-name+in_ok-add_line+in_ok-push w ↦ rw w.out-is (adds_then c.loop-row.invariant (record { lines = _; added = w.in_ok-add_line.ensures.bytes; ended = simp ended_later }))
  | in_default w ↦ rw w.out-is c.loop-row.invariant
]
