use Rattle.fields.proofs.Standing.{none_stands, one_more_stands, all_are_the_string}
use Rattle.fields.proofs.laws.each_write_adds_its_part.Goals as goal

pub returns : goal.returns
returns c = record { none = none_stands; more = one_more_stands; all = all_are_the_string }
