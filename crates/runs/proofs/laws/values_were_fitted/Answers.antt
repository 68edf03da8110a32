use Rattle.runs.specs.Runs.{reckoned}
use Rattle.runs.proofs.Standing.{stands}
use Rattle.runs.proofs.Filling.{so_far}
use Rattle.runs.proofs.Values.{values_were_fitted}
use Rattle.runs.proofs.laws.values_were_fitted.Goals as goal

pub returns : goal.returns
returns g c = record {
  fitted = values_were_fitted;
  others = λ spelling calls sound high. (so_far spelling (reckoned spelling calls) (stands spelling calls sound) high).others;
}
