use Rattle.runs.specs.Runs.{reckoned}
use Rattle.runs.proofs.Standing.{stands}
use Rattle.runs.proofs.Filling.{levels_left}
use Rattle.runs.proofs.laws.fitted_exactly.Goals as goal

pub returns : goal.returns
returns g c spelling calls sound = levels_left spelling (reckoned spelling calls) (stands spelling calls sound)
