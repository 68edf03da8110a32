use Rattle.runs.specs.Runs.{reckoned}
use Rattle.runs.proofs.Standing.{stands}
use Rattle.runs.proofs.Filling.{filled_by_settled}
use Rattle.runs.proofs.laws.filled_exactly.Goals as goal

pub returns : goal.returns
returns g c spelling calls sound = filled_by_settled spelling (reckoned spelling calls) (stands spelling calls sound)
