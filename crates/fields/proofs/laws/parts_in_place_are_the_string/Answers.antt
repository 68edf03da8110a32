use Rattle.fields.proofs.Composed.{composes}
use Rattle.fields.proofs.laws.parts_in_place_are_the_string.Goals as goal

pub returns : goal.returns
returns c = composes
