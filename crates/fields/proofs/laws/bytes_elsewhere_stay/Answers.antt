use Rattle.fields.proofs.Written.{spares}
use Rattle.fields.proofs.laws.bytes_elsewhere_stay.Goals as goal

pub returns : goal.returns
returns c = spares
