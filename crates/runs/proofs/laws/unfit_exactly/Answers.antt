use Rattle.runs.specs.Runs.{reckoned}
use Rattle.runs.proofs.Fitted.{unfit_exactly}
use Rattle.runs.proofs.laws.unfit_exactly.Goals as goal

pub returns : goal.returns
returns g c spelling calls sound = unfit_exactly spelling (reckoned spelling calls)
