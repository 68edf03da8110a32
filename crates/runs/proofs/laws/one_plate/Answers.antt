use Rattle.runs.specs.Runs.{reckoned}
use Rattle.runs.proofs.Single.{one_plate}
use Rattle.runs.proofs.laws.one_plate.Goals as goal

pub returns : goal.returns
returns g c spelling calls sound = one_plate spelling (reckoned spelling calls)
