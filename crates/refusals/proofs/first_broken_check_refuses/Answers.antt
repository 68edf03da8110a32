use Rattle.refusals.proofs.Refusals.{first_refuses, lowest_refuses, all_met}
use Rattle.refusals.proofs.first_broken_check_refuses.Goals as goal

pub returns : goal.returns
returns g c = record {
  first = λ os f e. first_refuses os f e;
  lowest = λ check k f e. lowest_refuses check k f e;
  met = λ os e j. all_met os e j;
}
