-- What a call to a pressing answers.
use Rattle.std.specs.Prelude.{Result}
use Rattle.runs.specs.declared.fault.PressFault.{PressFault}
use Rattle.runs.specs.declared.answer.Outcome.{Outcome}

-- what an accepted call comes to, or why it is refused
abbrev pub Answer : Type 0
Answer = Result Outcome PressFault
