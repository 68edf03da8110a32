use Rattle.runs.proofs.Names.{names_were_entered}
use Rattle.runs.proofs.laws.names_were_entered.Goals as goal

pub returns : goal.returns
returns g c = names_were_entered
