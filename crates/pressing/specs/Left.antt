-- When a pressing and the lists lent to it are as a run's calls left them, and what every call promises.
use Rattle.std.specs.Prelude.{◌≡◌, ℕ, ◌*◌, ◌<◌, ◌≤◌, true, List, map, length, take, is_err, Some, None, Ok, Err, Option, Result, slice_index}
use Rattle.std.specs.List.{AllByRecursion}
use Rattle.hashing.specs.Generator.{tables as tables_of}
use Rattle.graph.specs.declared.rows.Row.{Row}
use Rattle.graph.specs.Chains.{row, Graph}
use Rattle.ordering.specs.Queue.{OrderedGraph}
use Rattle.runs.specs.declared.stage.Stage.TheVariants.{Mapped, Ordered}
use Rattle.runs.specs.declared.fault.PressFault.{PressFault}
use Rattle.runs.specs.Answers.{Answer}
use Rattle.runs.specs.declared.answer.Outcome.{Outcome}
use Rattle.runs.specs.Runs.{ample, Call, Run, rank, count, graph as graph_of, vertex_order, earlier, step, reckoned, answer}
use Rattle.runs.specs.Laws.{Sound}
use Rattle.pressing.specs.declared.press.Pressing.{Pressing}
use Rattle.pressing.specs.Memory.{Memory, lent}
use Rattle.leveling.specs.Level.{slot_rows}

-- the row of a name with its setting
abbrev pub as_row : {N : Type 0} → N × ℕ → Row N
as_row x = record { name = x.0; setting = x.1 }

module _ {N : Type 0} (spelling : N → List ℕ) where
  -- m is what some list of calls comes to
  pub record IsRun (m : Run N) : Type 0 where
    pub calls : List (Call N)
    pub sound : AllByRecursion Sound calls
    pub comes_to : m ≡ reckoned spelling calls

  -- the pressing has what the run has
  pub record Kept (m : Run N) (p : Pressing N) : Type 0 where
    pub stage : p.stage ≡ m.stage
    pub count : p.count ≡ count m
    pub r : p.r ≡ m.r
    pub seed : p.seed ≡ m.seed
    pub level : p.level ≡ m.level
    pub levels : rank Ordered ≤ rank m.stage → p.levels ≡ length (vertex_order spelling m)

  -- from stage Mapped on: the tables of the seed, and the graph of the names
  pub record MappedLists (m : Run N) (l : Memory N) : Type 0 where
    pub tables : take 12288 l.tables ≡ tables_of m.seed
    pub graph : Graph (graph_of spelling m) m.r l.edges l.vertices

  -- from stage Ordered on: the order of the vertices, their values, and in each slot the row that fills it
  pub record OrderedLists (m : Run N) (l : Memory N) : Type 0 where
    pub order : OrderedGraph (graph_of spelling m) m.r l.edges l.vertices l.ordered (length (vertex_order spelling m))
    pub values : (u : ℕ) → u < 2 * m.r → (row l.vertices u).value ≡ slice_index m.values u
    pub slots : take (count m) l.slots ≡ slot_rows (graph_of spelling m) (count m) m.values (earlier spelling m)

  pub record Held (m : Run N) (l : Memory N) : Type 0 where
    pub names : take (count m) l.rows ≡ map as_row m.names
    pub mapped : rank Mapped ≤ rank m.stage → MappedLists m l
    pub ordered : rank Ordered ≤ rank m.stage → OrderedLists m l

  -- pressing and lists are as the calls of the run m left them; of lists that are too short nothing is asked
  pub record Left (m : Run N) (p : Pressing N) (l : Memory N) : Type 0 where
    pub run : IsRun m
    pub kept : Kept m p
    pub held : ample (lent l) ≡ true → Held m l

-- a result as the answer of a run
abbrev pub as_answer : {T : Type 0} → (T → Outcome) → Result T PressFault → Answer
as_answer ok (Ok x) = Ok (ok x)
as_answer ok (Err f) = Err f

-- whatever the lists hold: the checks that the pressing decides alone refuse as they come,
-- and past them only the one that the lists decide, if there is one
pub record Gated {T : Type 0} (gate late : Option PressFault) (r : Result T PressFault) : Type 0 where
  pub refuses : (f : PressFault) → gate ≡ Some f → r ≡ Err f
  pub else_late : gate ≡ None → (f : PressFault) → r ≡ Err f → late ≡ Some f

-- what every call promises: for every run that left the pressing and the lists, the answer is the run's,
-- and the run's next state left them then; and whatever the lists hold, what the gate says of refusals,
-- that a refusal leaves the pressing as it was, and that every list keeps its length
pub record Done {N T : Type 0} (spelling : N → List ℕ) (call : Call N) (ok : T → Outcome) (gate late : Option PressFault) (p : Pressing N) (l : Memory N) (r : Result T PressFault) (p' : Pressing N) (l' : Memory N) : Type 0 where
  pub told : (m : Run N) → Left spelling m p l → (as_answer ok r ≡ answer spelling m call) × Left spelling (step spelling m call) p' l'
  pub gated : Gated gate late r
  pub stays : is_err r ≡ true → p' ≡ p
  pub long : lent l' ≡ lent l
