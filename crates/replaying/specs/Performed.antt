-- What a session's calls come to.
use Rattle.std.specs.Prelude.{◌≡◌, ℕ, List, take}
use Rattle.ways.specs.Permutation.{Meaning}
use Rattle.runs.specs.Answers.{Answer}
use Rattle.runs.specs.declared.stage.Stage.TheVariants.{Sealed}
use Rattle.runs.specs.Runs.{Lent, Run, beginning, answers, continued, string_length, sealed_string}
use Rattle.scripts.specs.declared.script.Step.{Step}
use Rattle.scripts.specs.Script.{as_calls}

-- the lengths of the full lists
abbrev pub full : Lent
full = record { rows = 1024; tables = 12288; edges = 1024; vertices = 2048; heap = 2048; ordered = 2048; slots = 1024 }

-- what a run from the beginning answers the calls of a script, over full lists and string memory of this length
unfoldable pub run_answers : {N W : Type 0} → (N → List ℕ) → (W → Meaning) → ℕ → List (Step N W) → List Answer
run_answers spelling meaning room script = answers spelling beginning (as_calls meaning full room script)

-- where that run ends
unfoldable pub run_end : {N W : Type 0} → (N → List ℕ) → (W → Meaning) → ℕ → List (Step N W) → Run N
run_end spelling meaning room script = continued spelling beginning (as_calls meaning full room script)

-- once the run is sealed, the memory begins with its string
pub record HoldsItsString {N : Type 0} (spelling : N → List ℕ) (kind : ℕ) (m : Run N) (memory : List ℕ) : Type 0 where
  pub begins : m.stage ≡ Sealed → take (string_length m) memory ≡ sealed_string spelling kind m
