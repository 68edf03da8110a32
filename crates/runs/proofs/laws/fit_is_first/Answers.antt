use Rattle.runs.specs.Runs.{reckoned}
use Rattle.runs.proofs.Fitted.{fit_is_first}
use Rattle.runs.proofs.laws.fit_is_first.Goals as goal

pub returns : goal.returns
returns g c spelling calls sound = fit_is_first spelling (reckoned spelling calls)
