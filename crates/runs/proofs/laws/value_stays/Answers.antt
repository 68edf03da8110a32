use Rattle.runs.specs.Runs.{reckoned}
use Rattle.runs.proofs.Standing.{stands}
use Rattle.runs.proofs.Values.{value_stays}
use Rattle.runs.proofs.laws.value_stays.Goals as goal

pub returns : goal.returns
returns g c spelling calls sound = value_stays spelling (reckoned spelling calls) (stands spelling calls sound)
