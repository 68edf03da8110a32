-- What holds of every run of calls to one pressing, for every kind of name N and every spelling of its names.
use Rattle.std.specs.Prelude.{◌≡◌, ℕ, ◌-◌, ◌<◌, ◌≤◌, Bool, true, false, cond, ◌↔◌, List, [], ◌∷◌, ◌++◌, map, length, is_err, Some, Ok, Err, Option, ◌≢◌, slice_index, slice_index_or, slice_set}
use Rattle.std.specs.List.{AllByRecursion}
use Rattle.hashing.specs.Triples.{Triple}
use Rattle.ways.specs.Permutation.{Meaning, asked, Permutes}
use Rattle.runs.specs.declared.stage.Stage.TheVariants.{Mapped, Ordered, Fitted}
use Rattle.runs.specs.declared.fault.PressFault.{PressFault}
use Rattle.runs.specs.Answers.{Answer}
use Rattle.runs.specs.declared.answer.Outcome.TheVariants as answered
use Rattle.runs.specs.Faults.{number, carried}
use Rattle.runs.specs.Lists.{among, Distinct}
use Rattle.runs.specs.Order.{OrderOf, order}
use Rattle.runs.specs.Fitting.{slot, settles, AllFree, Blocked}
use Rattle.runs.specs.Plates.{Entry, Plate, Lawful, slot_of, one_look, find}
use Rattle.runs.specs.Runs.{Lent, ample, Call, enter, map_to, order_by, fit, reopen, seal, Run, rank, count, spellings, graph, vertex_order, earlier, vertex, level_names, level_slots, step, beginning, continued, reckoned, answer, answers, entered, pressed, sealed_string}

-- there is one order, and `order` computes it
abbrev pub OneOrder : Type 0
OneOrder = (es : List Triple) (r : ℕ) (vs : List ℕ) → OrderOf es r vs ↔ (vs ≡ order es r)

-- a call that can be made: a setting has 16 bits, and a way keeps its law
abbrev pub Sound : {N : Type 0} → Call N → Type 0
Sound (enter l x v) = v < 65536
Sound (map_to l r seed) = Unit {0}
Sound (order_by l) = Unit {0}
Sound (fit l w) = Permutes w
Sound reopen = Unit {0}
Sound (seal l room) = Unit {0}

-- it holds of the run of every list of calls, in any number and order, some refused
abbrev pub OfEveryRun : (N : Type 0) → ((N → List ℕ) → Run N → Type 0) → Type 0
OfEveryRun N P = (spelling : N → List ℕ) (calls : List (Call N)) → AllByRecursion Sound calls → P spelling (reckoned spelling calls)

-- a refused call changes nothing
abbrev pub RefusalChangesNothing : Type 0 → Type 0
RefusalChangesNothing N = OfEveryRun N (λ spelling m.
    (c : Call N) (f : PressFault) → answer spelling m c ≡ Err f → step spelling m c ≡ m)

-- the names of a run are those of the enters that were not refused, in their order
abbrev pub named : {N : Type 0} → Call N → List (N × ℕ)
named (enter l x v) = (x, v) ∷ []
named (map_to l r seed) = []
named (order_by l) = []
named (fit l w) = []
named reopen = []
named (seal l room) = []

abbrev pub entered_by : {N : Type 0} → List (Call N) → List Answer → List (N × ℕ)
entered_by [] more = []
entered_by (c ∷ cs) [] = []
entered_by (c ∷ cs) (a ∷ more) = cond (is_err a) [] (named c) ++ entered_by cs more

abbrev pub NamesWereEntered : Type 0 → Type 0
NamesWereEntered N =
    (spelling : N → List ℕ) (calls : List (Call N)) →
    (reckoned spelling calls).names ≡ entered_by calls (answers spelling beginning calls)

-- some name has the spelling s
abbrev pub SpelledBy : {N : Type 0} → (N → List ℕ) → List ℕ → Type 0
SpelledBy {N} spelling s = (x : N) × (spelling x ≡ s)

-- no two names of a run have one spelling
abbrev pub NoSpellingTwice : Type 0 → Type 0
NoSpellingTwice N = OfEveryRun N (λ spelling m. Distinct [] (spellings spelling m.names))

-- from stage Mapped on, no two names have one triple
abbrev pub no_triple : Triple
no_triple = record { h0 = 0; h1 = 0; h2 = 0 }

abbrev pub NoTripleTwice : Type 0 → Type 0
NoTripleTwice N = OfEveryRun N (λ spelling m. rank Mapped ≤ rank m.stage → Distinct no_triple (graph spelling m))

-- an answer refuses with this number, and carries this
pub record Refuses (a : Answer) (n : ℕ) (carries : Option ℕ) : Type 0 where
  pub fault : PressFault
  pub refused : a ≡ Err fault
  pub numbered : number fault ≡ n
  pub carrying : carried fault ≡ carries

module _ {N : Type 0} (spelling : N → List ℕ) where
  -- a level is asked for in its turn, by a way of the right size
  pub record InTurn (m : Run N) (l : Lent) (w : Meaning) : Type 0 where
    pub ordered : m.stage ≡ Ordered
    pub long : ample l ≡ true
    pub sized : w.size ≡ count m

  -- each rotation puts a name of the next level into a filled slot, or two of its names into one slot
  abbrev pub EveryRotationBlocked : Run N → Type 0
  EveryRotationBlocked m = (v : ℕ) → v < count m → Blocked m.filled (level_slots spelling m v)

  -- v is the first rotation of the way that fits the next level, and it took so many tries
  pub record FirstThatFits (m : Run N) (w : Meaning) (v tries : ℕ) : Type 0 where
    pub some : 1 ≤ tries
    pub most : tries ≤ count m
    pub tried : v ≡ asked w m.level (tries - 1)
    pub fits : AllFree m.filled (level_slots spelling m v)
    pub none_before : (j : ℕ) → j < tries - 1 → Blocked m.filled (level_slots spelling m (asked w m.level j))

  -- no call of a list is an accepted order
  abbrev pub NoOrder : Run N → List (Call N) → Type 0
  NoOrder m [] = Unit {0}
  NoOrder m (c ∷ cs) = ((k : ℕ) → answer spelling m c ≢ Ok (answered.Ordered k)) × NoOrder (step spelling m c) cs

  -- the vertex fitted at the level i has the value that a fit among the calls answered, and no order was accepted since
  pub record WasFitted (calls : List (Call N)) (m : Run N) (i : ℕ) : Type 0 where
    pub before : List (Call N)
    pub lent : Lent
    pub way : Meaning
    pub after : List (Call N)
    pub split : calls ≡ before ++ fit lent way ∷ after
    pub tries : ℕ
    pub answers : answer spelling (reckoned spelling before) (fit lent way) ≡ Ok (answered.Fitted (slice_index m.values (slice_index (vertex_order spelling m) i)) tries)
    pub at_level : (reckoned spelling before).level ≡ i
    pub same_order : vertex_order spelling (reckoned spelling before) ≡ vertex_order spelling m
    pub since : NoOrder (step spelling (reckoned spelling before) (fit lent way)) after

  -- the name at place i is settled: both its vertices have been fitted; and its slot
  abbrev pub Settled : Run N → ℕ → Type 0
  Settled m i = settles (earlier spelling m) (slice_index_or (graph spelling m) i no_triple) ≡ true

  abbrev pub slot_at : Run N → ℕ → ℕ
  slot_at m i = slot (count m) m.values (slice_index_or (graph spelling m) i no_triple)

  -- each filled slot is that of one settled name, and the slot of each settled name is filled
  pub record FilledBySettled (m : Run N) : Type 0 where
    pub from_name : (s : ℕ) → among s m.filled ≡ true → (i : ℕ) × (i < count m) × Settled m i × (slot_at m i ≡ s)
    pub of_name : (i : ℕ) → i < count m → Settled m i → among (slot_at m i) m.filled ≡ true
    pub of_one : (i j : ℕ) → i < j → j < count m → Settled m i → Settled m j → slot_at m i ≢ slot_at m j

  -- a level is left at stage Ordered, and none after it
  pub record LevelsLeft (m : Run N) : Type 0 where
    pub some_left : m.stage ≡ Ordered → m.level < length (vertex_order spelling m)
    pub none_left : rank Fitted ≤ rank m.stage → m.level ≡ length (vertex_order spelling m)

  -- p is the plate of the run: lawful, of its numbers, each name entered in its slot, each record a name entered,
  -- and any bytes are answered as the names entered answer
  pub record PlateOf (m : Run N) (p : Plate) : Type 0 where
    pub lawful : Lawful (SpelledBy spelling) p
    pub same_r : p.r ≡ m.r
    pub same_seed : p.seed ≡ m.seed
    pub same_values : p.values ≡ m.values
    pub counts : length p.records ≡ count m
    pub holds : (i : ℕ) (d : Entry) → i < count m →
        slice_index_or p.records (slot_of p (slice_index_or (entered spelling m) i d).spelling) d ≡ slice_index_or (entered spelling m) i d
    pub holds_only : (k : ℕ) (d : Entry) → k < length p.records →
        (i : ℕ) × (i < count m) × (slice_index_or p.records k d ≡ slice_index_or (entered spelling m) i d)
    pub finds : (s : List ℕ) → find p.records s ≡ find (entered spelling m) s

-- a level in its turn is refused as unfit, which is refusal 19 with the level, exactly if every rotation is blocked
abbrev pub UnfitExactly : Type 0 → Type 0
UnfitExactly N = OfEveryRun N (λ spelling m.
    (l : Lent) (w : Meaning) → Permutes w → InTurn spelling m l w →
    Refuses (answer spelling m (fit l w)) 19 (Some m.level) ↔ EveryRotationBlocked spelling m)

-- the slots that a rotation gives the names of the next level are those that they have once its vertex has that value
abbrev pub RotationGivesSlots : Type 0 → Type 0
RotationGivesSlots N = OfEveryRun N (λ spelling m.
    m.stage ≡ Ordered → (v : ℕ) →
    level_slots spelling m v ≡ map (slot (count m) (slice_set m.values (vertex spelling m) v)) (level_names spelling m))

-- an accepted fit answers the first rotation that fits, with its tries
abbrev pub FitIsFirst : Type 0 → Type 0
FitIsFirst N = OfEveryRun N (λ spelling m.
    (l : Lent) (w : Meaning) (v tries : ℕ) → answer spelling m (fit l w) ≡ Ok (answered.Fitted v tries) → FirstThatFits spelling m w v tries)

-- and the vertex has that value until the next accepted order
abbrev pub ValueStays : Type 0 → Type 0
ValueStays N = OfEveryRun N (λ spelling m.
    (l : Lent) (w : Meaning) (v tries : ℕ) (after : List (Call N)) → Permutes w → AllByRecursion Sound after →
    answer spelling m (fit l w) ≡ Ok (answered.Fitted v tries) → NoOrder spelling (step spelling m (fit l w)) after →
    slice_index (continued spelling (step spelling m (fit l w)) after).values (vertex spelling m) ≡ v)

-- every value of a fitted vertex came about so
abbrev pub ValuesWereFitted : Type 0 → Type 0
ValuesWereFitted N =
    (spelling : N → List ℕ) (calls : List (Call N)) → AllByRecursion Sound calls → rank Ordered ≤ rank (reckoned spelling calls).stage →
    (i : ℕ) → i < (reckoned spelling calls).level → WasFitted spelling calls (reckoned spelling calls) i

-- and every other vertex has the value 0
abbrev pub OthersHaveZero : Type 0 → Type 0
OthersHaveZero N = OfEveryRun N (λ spelling m.
    rank Ordered ≤ rank m.stage → (u : ℕ) → among u (earlier spelling m) ≡ false → slice_index m.values u ≡ 0)

-- the filled slots are those of the names settled since the last accepted order
abbrev pub FilledExactly : Type 0 → Type 0
FilledExactly N = OfEveryRun N (λ spelling m. rank Ordered ≤ rank m.stage → FilledBySettled spelling m)

-- the stage is Fitted exactly when every ordered vertex has been fitted
abbrev pub FittedExactly : Type 0 → Type 0
FittedExactly N = OfEveryRun N (λ spelling m. LevelsLeft spelling m)

-- an accepted seal's plate is that of the run, and it answers the length of the plate's string, for which there is room
abbrev pub SealsSoundly : Type 0 → Type 0
SealsSoundly N = OfEveryRun N (λ spelling m.
    (l : Lent) (room k : ℕ) → answer spelling m (seal l room) ≡ Ok (answered.Sealed k) →
    PlateOf spelling m (pressed spelling m) × (k ≤ room) ×
    (((x : N) → length (spelling x) ≤ 16) → (kind : ℕ) → length (sealed_string spelling kind m) ≡ k))

-- a run has one plate at most
abbrev pub OnePlate : Type 0 → Type 0
OnePlate N = OfEveryRun N (λ spelling m. (p q : Plate) → PlateOf spelling m p → PlateOf spelling m q → p ≡ q)

-- in a lawful plate a look-up is one look: at the record in the slot that the bytes have
abbrev pub FoundByOneLook : Type 0 → Type 0
FoundByOneLook N =
    (spelling : N → List ℕ) (p : Plate) → Lawful (SpelledBy spelling) p → (s : List ℕ) (d : Entry) →
    find p.records s ≡ one_look (slice_index_or p.records (slot_of p s) d) s
