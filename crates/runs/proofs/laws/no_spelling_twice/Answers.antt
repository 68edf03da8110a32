use Rattle.runs.proofs.Standing.{stands}
use Rattle.runs.proofs.laws.no_spelling_twice.Goals as goal

pub returns : goal.returns
returns g c spelling calls sound = (stands spelling calls sound).spelled
