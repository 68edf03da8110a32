use Rattle.fields.proofs.Standing.{any_order}
use Rattle.fields.proofs.laws.any_order_gives_the_string.Goals as goal

pub returns : goal.returns
returns c = any_order
