use Rattle.runs.specs.Runs.{reckoned}
use Rattle.runs.proofs.Standing.{stands}
use Rattle.runs.proofs.Filling.{ranged}
use Rattle.runs.proofs.laws.no_triple_twice.Goals as goal

pub returns : goal.returns
returns g c spelling calls sound high = (ranged spelling (reckoned spelling calls) (stands spelling calls sound) high).no_clash
