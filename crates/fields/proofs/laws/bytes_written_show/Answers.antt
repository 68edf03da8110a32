use Rattle.fields.proofs.Written.{shows}
use Rattle.fields.proofs.laws.bytes_written_show.Goals as goal

pub returns : goal.returns
returns c = shows
