use Rattle.runs.specs.Runs.{reckoned}
use Rattle.runs.proofs.Standing.{stands}
use Rattle.runs.proofs.Sealing.{seals_soundly}
use Rattle.runs.proofs.laws.seals_soundly.Goals as goal

pub returns : goal.returns
returns g c spelling calls sound = seals_soundly spelling (reckoned spelling calls) (stands spelling calls sound)
