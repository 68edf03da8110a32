use Rattle.runs.proofs.OrderOf.{one_order}
use Rattle.runs.proofs.laws.one_order.Goals as goal

pub returns : goal.returns
returns c = one_order
