use Rattle.runs.specs.Runs.{reckoned}
use Rattle.runs.proofs.Standing.{stands}
use Rattle.runs.proofs.Filling.{rotation_gives_slots}
use Rattle.runs.proofs.laws.rotation_gives_slots.Goals as goal

pub returns : goal.returns
returns g c spelling calls sound = rotation_gives_slots spelling (reckoned spelling calls) (stands spelling calls sound)
