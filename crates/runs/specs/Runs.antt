-- A run: what a list of calls to one pressing comes to, reckoned from the calls' arguments alone.
-- A pressing makes one plate of names of one kind, of which a run knows the spellings.
use Rattle.std.specs.Prelude.{ℕ, suc, ◌+◌, ◌*◌, Bool, true, false, cond, not, ◌&&◌, List, [], ◌∷◌, ◌++◌, map, length, take, replicate, is_some, Some, None, Ok, Err, Option, ◌==◌, nat_le, nat_lt, slice_index, slice_set}
use Rattle.refusals.specs.Checks.{unless, first}
use Rattle.hashing.specs.Generator.{tables}
use Rattle.hashing.specs.Triples.{Triple, triple}
use Rattle.ways.specs.Permutation.{Meaning, asked}
use Rattle.runs.specs.declared.stage.Stage.{Stage}
use Rattle.runs.specs.declared.stage.Stage.TheVariants.{Open, Mapped, Ordered, Fitted, Sealed}
use Rattle.runs.specs.declared.fault.PressFault.{PressFault}
use Rattle.runs.specs.declared.fault.PressFault.TheVariants.{WrongStage, ShortList, TooManyNames, SpellingEntered, WaySize, NoName, VertexCount, Seed, Clash, Unfit, ShortString}
use Rattle.runs.specs.Answers.{Answer}
use Rattle.runs.specs.declared.answer.Outcome.{Outcome}
use Rattle.runs.specs.declared.answer.Outcome.TheVariants as answered
use Rattle.std.specs.Str.{bytes_eq}
use Rattle.runs.specs.Lists.{has, repeats}
use Rattle.runs.specs.Order.{order}
use Rattle.runs.specs.Fitting.{slot, level_of, offset, turned, first_fit}
use Rattle.runs.specs.Plates.{Entry, Plate, by_slot, plate_string}

-- of each lent work list its length
pub record Lent : Type 0 where
  pub rows : ℕ
  pub tables : ℕ
  pub edges : ℕ
  pub vertices : ℕ
  pub heap : ℕ
  pub ordered : ℕ
  pub slots : ℕ

-- no work list is too short
abbrev pub ample : Lent → Bool
ample l =
    nat_le 1024 l.rows && (nat_le 12288 l.tables && (nat_le 1024 l.edges && (nat_le 2048 l.vertices &&
    (nat_le 2048 l.heap && (nat_le 2048 l.ordered && nat_le 1024 l.slots)))))

-- a call with its arguments: a name and its setting; r and a seed; a way; the length of the string memory
pub data Call (N : Type 0) : Type 0 where
  enter : Lent → N → ℕ → Call N
  map_to : Lent → ℕ → ℕ → Call N
  order_by : Lent → Call N
  fit : Lent → Meaning → Call N
  reopen : Call N
  seal : Lent → ℕ → Call N

-- where a pressing stands: r and seed are those of the last accepted map, and the rest is since the last accepted order:
-- the next level, the values of the vertices, the filled slots
pub record Run (N : Type 0) : Type 0 where
  pub stage : Stage
  pub names : List (N × ℕ)
  pub r : ℕ
  pub seed : ℕ
  pub level : ℕ
  pub values : List ℕ
  pub filled : List ℕ

-- the stages are numbered as they follow one another
abbrev pub rank : Stage → ℕ
rank Open = 0
rank Mapped = 1
rank Ordered = 2
rank Fitted = 3
rank Sealed = 4

abbrev pub is : Stage → Stage → Bool
is s t = rank s == rank t

abbrev pub same_triple : Triple → Triple → Bool
same_triple a b = a.h0 == b.h0 && (a.h1 == b.h1 && a.h2 == b.h2)

-- x if there is no fault, else what y makes of it
abbrev pub unless_refused : {X : Type 0} → Option PressFault → X → (PressFault → X) → X
unless_refused None x y = x
unless_refused (Some f) x y = y f

-- what a fit that found a rotation answers; one that found none is refused before
abbrev pub fit_answer : Option (ℕ × ℕ) → Outcome
fit_answer None = answered.Fitted 0 0
fit_answer (Some (v, tries)) = answered.Fitted v tries

module _ {N : Type 0} where
  -- a pressing begins open, without names
  abbrev pub beginning : Run N
  beginning = record { stage = Open; names = []; r = 0; seed = 0; level = 0; values = []; filled = [] }

  abbrev pub count : Run N → ℕ
  count m = length m.names

  -- of the plate string that the run would seal
  abbrev pub string_length : Run N → ℕ
  string_length m = 21 + 4 * m.r + 22 * count m

  abbrev pub led_to : Stage → Run N → Run N
  led_to s m = record { stage = s; names = m.names; r = m.r; seed = m.seed; level = m.level; values = m.values; filled = m.filled }

  abbrev pub with_name : Run N → N → ℕ → Run N
  with_name m x v = record { stage = Open; names = m.names ++ (x, v) ∷ []; r = m.r; seed = m.seed; level = m.level; values = m.values; filled = m.filled }

  abbrev pub with_map : Run N → ℕ → ℕ → Run N
  with_map m r seed = record { stage = Mapped; names = m.names; r = r; seed = seed; level = m.level; values = m.values; filled = m.filled }

  abbrev pub with_order : Run N → Run N
  with_order m = record { stage = Ordered; names = m.names; r = m.r; seed = m.seed; level = 0; values = replicate (2 * m.r) 0; filled = [] }

module _ {N : Type 0} (spelling : N → List ℕ) where
  abbrev pub spellings : List (N × ℕ) → List (List ℕ)
  spellings xs = map (λ x. spelling x.0) xs

  -- the triples of names with r and a seed
  abbrev pub triples : List (N × ℕ) → ℕ → ℕ → List Triple
  triples xs r seed = map (λ x. triple (tables seed) (length xs) r (spelling x.0)) xs

  -- the graph of a run, and the order of its vertices
  abbrev pub graph : Run N → List Triple
  graph m = triples m.names m.r m.seed

  abbrev pub vertex_order : Run N → List ℕ
  vertex_order m = order (graph m) m.r

  -- the vertices that have been fitted, the one whose level is next, and the names of that level
  abbrev pub earlier : Run N → List ℕ
  earlier m = take m.level (vertex_order m)

  abbrev pub vertex : Run N → ℕ
  vertex m = slice_index (vertex_order m) m.level

  abbrev pub level_names : Run N → List Triple
  level_names m = level_of (graph m) (earlier m) (vertex m)

  abbrev pub level_offsets : Run N → List ℕ
  level_offsets m = map (offset (count m) m.values (vertex m)) (level_names m)

  -- the slots that the rotation v gives to the names of the next level
  abbrev pub level_slots : Run N → ℕ → List ℕ
  level_slots m v = turned (count m) v (level_offsets m)

  -- the first rotation of a way that fits the next level, and the tries
  abbrev pub fit_found : Run N → Meaning → Option (ℕ × ℕ)
  fit_found m w = first_fit (count m) (asked w m.level) m.filled (level_offsets m) (count m) 0

  -- the checks of a call in their order
  abbrev pub checks : Run N → Call N → List (Option PressFault)
  checks m (enter l x v) =
      unless (is m.stage Open) WrongStage ∷
      unless (ample l) ShortList ∷
      unless (nat_lt (count m) 1024) TooManyNames ∷
      unless (not (has bytes_eq (spelling x) (spellings m.names))) SpellingEntered ∷
      []
  checks m (map_to l r seed) =
      unless (is m.stage Open) WrongStage ∷
      unless (ample l) ShortList ∷
      unless (nat_lt 0 (count m)) NoName ∷
      unless (nat_le 1 r && nat_le r 1024) VertexCount ∷
      unless (nat_le 1 seed && nat_le seed 2147483646) Seed ∷
      unless (not (repeats same_triple (triples m.names r seed))) Clash ∷
      []
  checks m (order_by l) = unless (is m.stage Mapped) WrongStage ∷ unless (ample l) ShortList ∷ []
  checks m (fit l w) =
      unless (is m.stage Ordered) WrongStage ∷
      unless (ample l) ShortList ∷
      unless (w.size == count m) WaySize ∷
      unless (is_some (fit_found m w)) (Unfit m.level) ∷
      []
  checks m reopen = unless (not (is m.stage Sealed)) WrongStage ∷ []
  checks m (seal l room) =
      unless (is m.stage Fitted) WrongStage ∷
      unless (ample l) ShortList ∷
      unless (nat_le (string_length m) room) ShortString ∷
      []

  abbrev pub refusal : Run N → Call N → Option PressFault
  refusal m c = first (checks m c)

  -- The steps of accepted calls.

  -- fitted after the last level, else ordered
  abbrev pub stage_after : Run N → Stage
  stage_after m = cond (suc m.level == length (vertex_order m)) Fitted Ordered

  -- the value for the vertex, and its slots filled; with none found the call is refused
  abbrev pub with_level : Run N → Option (ℕ × ℕ) → Run N
  with_level m None = m
  with_level m (Some (v, tries)) = record {
    stage = stage_after m;
    names = m.names;
    r = m.r;
    seed = m.seed;
    level = suc m.level;
    values = slice_set m.values (vertex m) v;
    filled = m.filled ++ level_slots m v;
  }

  abbrev pub accepted : Run N → Call N → Run N
  accepted m (enter l x v) = with_name m x v
  accepted m (map_to l r seed) = with_map m r seed
  accepted m (order_by l) = with_order m
  accepted m (fit l w) = with_level m (fit_found m w)
  accepted m reopen = led_to Open m
  accepted m (seal l room) = led_to Sealed m

  -- The run after a call: a refused one changes nothing.
  abbrev pub step : Run N → Call N → Run N
  step m c = unless_refused (refusal m c) (accepted m c) (λ f. m)

  abbrev pub continued : Run N → List (Call N) → Run N
  continued m [] = m
  continued m (c ∷ cs) = continued (step m c) cs

  abbrev pub reckoned : List (Call N) → Run N
  reckoned cs = continued beginning cs

  -- What the calls answer.
  abbrev pub answer_accepted : Run N → Call N → Outcome
  answer_accepted m (enter l x v) = answered.Entered
  answer_accepted m (map_to l r seed) = answered.Mapped
  answer_accepted m (order_by l) = answered.Ordered (length (vertex_order m))
  answer_accepted m (fit l w) = fit_answer (fit_found m w)
  answer_accepted m reopen = answered.Reopened
  answer_accepted m (seal l room) = answered.Sealed (string_length m)

  abbrev pub answer : Run N → Call N → Answer
  answer m c = unless_refused (refusal m c) (Ok (answer_accepted m c)) (λ f. Err f)

  abbrev pub answers : Run N → List (Call N) → List Answer
  answers m [] = []
  answers m (c ∷ cs) = answer m c ∷ answers (step m c) cs

  -- The names entered, the slot that a run gives a spelling, and the plate that it seals, with its string.
  abbrev pub entry_of : N × ℕ → Entry
  entry_of x = record { spelling = spelling x.0; setting = x.1 }

  abbrev pub entered : Run N → List Entry
  entered m = map entry_of m.names

  abbrev pub run_slot : Run N → List ℕ → ℕ
  run_slot m s = slot (count m) m.values (triple (tables m.seed) (count m) m.r s)

  abbrev pub pressed : Run N → Plate
  pressed m = record { r = m.r; seed = m.seed; values = m.values; records = by_slot (run_slot m) (count m) (entered m) }

  abbrev pub sealed_string : ℕ → Run N → List ℕ
  sealed_string kind m = plate_string kind (pressed m)
