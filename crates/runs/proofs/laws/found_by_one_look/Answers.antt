use Rattle.runs.specs.Laws.{SpelledBy}
use Rattle.runs.proofs.Single.{found_once}
use Rattle.runs.proofs.laws.found_by_one_look.Goals as goal

pub returns : goal.returns
returns g c spelling = found_once (SpelledBy spelling)
