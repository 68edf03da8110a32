-- Scripts: calls one after another on one pressing, each lent first parts of one set of lists and of the string memory.
use Rattle.std.specs.Prelude.{◌≡◌, ℕ, ◌<◌, ◌≤◌, min, false, ◌↔◌, List, map, length, take, drop, Some, Ok, ◌≢◌, slice_index_or}
use Rattle.ways.specs.Permutation.{Meaning}
use Rattle.runs.specs.declared.stage.Stage.TheVariants.{Sealed}
use Rattle.runs.specs.Answers.{Answer}
use Rattle.runs.specs.declared.answer.Outcome.TheVariants as answered
use Rattle.runs.specs.Runs.{Lent, ample, Run, string_length, step, continued, answer, pressed, sealed_string}
use Rattle.runs.specs.Plates.{plate_string}
use Rattle.runs.specs.Laws.{Refuses, InTurn, EveryRotationBlocked, PlateOf}
use Rattle.runs.specs.Runs as run
use Rattle.pressing.specs.declared.press.Pressing.{Pressing}
use Rattle.scripts.specs.declared.script.Call.{Call}
use Rattle.scripts.specs.declared.script.Call.TheVariants.{Enter, Map, Order, Fit, Reopen, Seal}
use Rattle.scripts.specs.declared.script.Step.{Step}
use Rattle.pressing.specs.declared.lists.Lengths.{Lengths}
use Rattle.pressing.specs.Memory.{Memory, lent}
use Rattle.pressing.specs.Left.{Left}

-- a call as a run has it, with the lengths that it is lent and what a way means
abbrev pub as_call : {N W : Type 0} → (W → Meaning) → Lent → ℕ → Call N W → run.Call N
as_call meaning l room (Enter x v) = run.enter l x v
as_call meaning l room (Map r seed) = run.map_to l r seed
as_call meaning l room Order = run.order_by l
as_call meaning l room (Fit w) = run.fit l (meaning w)
as_call meaning l room Reopen = run.reopen
as_call meaning l room Seal = run.seal l room

-- what one call leaves of the string memory: the plate string of a run that left the lists and whatever lay behind it,
-- if it answers a length, and else all as it was
pub record StringAfter {N : Type 0} (spelling : N → List ℕ) (kind : ℕ) (p : Pressing N) (l : Memory N) (a : Answer) (string string' : List ℕ) : Type 0 where
  pub exact : (m : Run N) → Left spelling m p l → (k : ℕ) → a ≡ Ok (answered.Sealed k) → take k string' ≡ sealed_string spelling kind m
  pub behind : (k : ℕ) → a ≡ Ok (answered.Sealed k) → drop k string' ≡ drop k string
  pub kept : ((k : ℕ) → a ≢ Ok (answered.Sealed k)) → string' ≡ string
  pub long : length string' ≡ length string

-- one call over the lists and the string memory that it is lent
pub record Performed {N W : Type 0} (spelling : N → List ℕ) (kind : ℕ) (meaning : W → Meaning) (c : Call N W) (p : Pressing N) (l : Memory N) (string : List ℕ) (a : Answer) (p' : Pressing N) (l' : Memory N) (string' : List ℕ) : Type 0 where
  pub told : (m : Run N) → Left spelling m p l → (a ≡ answer spelling m (as_call meaning (lent l) (length string) c)) × Left spelling (step spelling m (as_call meaning (lent l) (length string) c)) p' l'
  pub short : ample (lent l) ≡ false → l' ≡ l
  pub long : lent l' ≡ lent l
  pub written : StringAfter spelling kind p l a string string'

-- the lengths that a step is lent of lists that are as long as `whole`
abbrev pub lent_of : Lent → Lengths → Lent
lent_of whole a = record { rows = min a.rows whole.rows; tables = min a.tables whole.tables; edges = min a.edges whole.edges; vertices = min a.vertices whole.vertices; heap = min a.heap whole.heap; ordered = min a.ordered whole.ordered; slots = min a.slots whole.slots }

-- a step as a run has it, and a script
module _ {N W : Type 0} (meaning : W → Meaning) (whole : Lent) (room : ℕ) where
  abbrev pub as_step : Step N W → run.Call N
  as_step s = as_call meaning (lent_of whole s.lent.lists) (min s.lent.string room) s.call

  abbrev pub as_calls : List (Step N W) → List (run.Call N)
  as_calls script = map as_step script

-- the run before the call at place i of a script
abbrev pub before : {N W : Type 0} → (W → Meaning) → Lent → ℕ → List (Step N W) → (N → List ℕ) → Run N → ℕ → Run N
before meaning whole room script spelling m i = continued spelling m (as_calls meaning whole room (take i script))

-- pressing, lists and string memory are as the run m left them: the memory begins with its string once it is sealed
pub record Holds {N : Type 0} (spelling : N → List ℕ) (kind : ℕ) (m : Run N) (p : Pressing N) (l : Memory N) (string : List ℕ) : Type 0 where
  pub left : Left spelling m p l
  pub string_left : m.stage ≡ Sealed → take (string_length m) string ≡ sealed_string spelling kind m

-- one step of a script over whole lists
pub record StepTaken {N W : Type 0} (spelling : N → List ℕ) (kind : ℕ) (meaning : W → Meaning) (s : Step N W) (p : Pressing N) (l : Memory N) (string : List ℕ) (a : Answer) (p' : Pressing N) (l' : Memory N) (string' : List ℕ) : Type 0 where
  pub told : (m : Run N) → Holds spelling kind m p l string →
      (a ≡ answer spelling m (as_step meaning (lent l) (length string) s)) × Holds spelling kind (step spelling m (as_step meaning (lent l) (length string) s)) p' l' string'
  pub long : lent l' ≡ lent l
  pub string_long : length string' ≡ length string

-- there are fewer places for answers than calls, and nothing has changed
pub record NotReplayed {N W : Type 0} (script : List (Step N W)) (p : Pressing N) (l : Memory N) (string : List ℕ) (answers : List Answer) (p' : Pressing N) (l' : Memory N) (string' : List ℕ) (answers' : List Answer) : Type 0 where
  pub few : length answers < length script
  pub pressing_same : p' ≡ p
  pub lists_same : l' ≡ l
  pub string_same : string' ≡ string
  pub answers_same : answers' ≡ answers

-- a script was performed: for every run that left pressing, lists and string memory, each answer is the run's,
-- and at the end they are left by the run of the whole script
pub record Replayed {N W : Type 0} (spelling : N → List ℕ) (kind : ℕ) (meaning : W → Meaning) (script : List (Step N W)) (p : Pressing N) (l : Memory N) (string : List ℕ) (answers : List Answer) (p' : Pressing N) (l' : Memory N) (string' : List ℕ) (answers' : List Answer) : Type 0 where
  pub room : length script ≤ length answers
  pub told : (m : Run N) → Holds spelling kind m p l string →
      (take (length script) answers' ≡ run.answers spelling m (as_calls meaning (lent l) (length string) script)) ×
      Holds spelling kind (continued spelling m (as_calls meaning (lent l) (length string) script)) p' l' string'
  pub answers_past : drop (length script) answers' ≡ drop (length script) answers
  -- a level asked for in its turn by a way of the right size is answered as unfit exactly if every rotation is blocked
  pub unfit_exactly : (m : Run N) → Holds spelling kind m p l string → (i : ℕ) (s : Step N W) (w : W) → i < length script → slice_index_or script i s ≡ s → s.call ≡ Fit w →
      InTurn spelling (before meaning (lent l) (length string) script spelling m i) (lent_of (lent l) s.lent.lists) (meaning w) →
      Refuses (slice_index_or answers' i (Ok answered.Entered)) 19 (Some (before meaning (lent l) (length string) script spelling m i).level) ↔ EveryRotationBlocked spelling (before meaning (lent l) (length string) script spelling m i)
  -- and a sealed string is that of the run's plate, which is lawful and holds exactly the names entered
  pub sealed_soundly : (m : Run N) → Holds spelling kind m p l string → (continued spelling m (as_calls meaning (lent l) (length string) script)).stage ≡ Sealed →
      PlateOf spelling (continued spelling m (as_calls meaning (lent l) (length string) script)) (pressed spelling (continued spelling m (as_calls meaning (lent l) (length string) script))) ×
      (take (string_length (continued spelling m (as_calls meaning (lent l) (length string) script))) string' ≡ plate_string kind (pressed spelling (continued spelling m (as_calls meaning (lent l) (length string) script))))
