-- The checks that a pressing decides alone, and what each call leaves in the lists, whatever they held.
use Rattle.std.specs.Prelude.{◌≡◌, ℕ, ◌+◌, ◌*◌, ◌<◌, true, false, ◌&&◌, ◌⊎◌, List, [], ◌∷◌, ◌++◌, length, take, drop, replicate, is_ok, is_err, Some, None, Ok, Err, Option, Result, MatchResult, ◌==◌, ◌≢◌, nat_le, nat_lt, slice_index, slice_set}
use Rattle.refusals.specs.Checks.{unless, first}
use Rattle.hashing.specs.Generator.{tables as tables_of}
use Rattle.graph.specs.Chains.{row, Graph}
use Rattle.graph.specs.Mapping.{row_triples}
use Rattle.ordering.specs.Queue.{Begun}
use Rattle.runs.specs.declared.fault.PressFault.{PressFault}
use Rattle.runs.specs.declared.fault.PressFault.TheVariants.{WrongStage, ShortList, TooManyNames, SpellingEntered, WaySize, NoName, VertexCount, Seed, Clash, Unfit, ShortString}
use Rattle.runs.specs.declared.answer.Outcome.{Outcome}
use Rattle.runs.specs.declared.answer.Outcome.TheVariants as answered
use Rattle.ways.specs.Permutation.{Meaning}
use Rattle.leveling.specs.Level.{valued}
use Rattle.runs.specs.Runs.{ample, Run, enter, map_to, order_by, fit, reopen, seal, sealed_string}
use Rattle.pressing.specs.declared.answer.Fit.{Fit as FitAnswer}
use Rattle.pressing.specs.declared.press.Pressing.{Pressing}
use Rattle.pressing.specs.declared.stage.Event.TheVariants.{Enter, Map, Order, Fit, Seal, Reopen}
use Rattle.pressing.specs.Memory.{Memory, lent, with_row}
use Rattle.pressing.specs.Stages.{belongs}
use Rattle.pressing.specs.Left.{Left, Done}

module _ {N : Type 0} (p : Pressing N) (l : Memory N) where
  abbrev pub enter_gate : Option PressFault
  enter_gate = first (
      unless (belongs Enter p.stage) WrongStage ∷
      unless (ample (lent l)) ShortList ∷
      unless (nat_lt p.count 1024) TooManyNames ∷
      [])

  abbrev pub map_gate : ℕ → ℕ → Option PressFault
  map_gate r seed = first (
      unless (belongs Map p.stage) WrongStage ∷
      unless (ample (lent l)) ShortList ∷
      unless (nat_lt 0 p.count) NoName ∷
      unless (nat_le 1 r && nat_le r 1024) VertexCount ∷
      unless (nat_le 1 seed && nat_le seed 2147483646) Seed ∷
      [])

  abbrev pub order_gate : Option PressFault
  order_gate = first (unless (belongs Order p.stage) WrongStage ∷ unless (ample (lent l)) ShortList ∷ [])

  abbrev pub fit_gate : ℕ → Option PressFault
  fit_gate size = first (
      unless (belongs (Fit false) p.stage) WrongStage ∷
      unless (ample (lent l)) ShortList ∷
      unless (size == p.count) WaySize ∷
      [])

  abbrev pub seal_gate : ℕ → Option PressFault
  seal_gate room = first (
      unless (belongs Seal p.stage) WrongStage ∷
      unless (ample (lent l)) ShortList ∷
      unless (nat_le (21 + 4 * p.r + 22 * p.count) room) ShortString ∷
      [])

abbrev pub reopen_gate : {N : Type 0} → Pressing N → Option PressFault
reopen_gate p = first (unless (belongs Reopen p.stage) WrongStage ∷ [])

-- what an accepted map of n rows writes, and a map that met a clash
pub record MapWrote {N : Type 0} (spelling : N → List ℕ) (n r seed : ℕ) (l l' : Memory N) : Type 0 where
  pub rows : l'.rows ≡ l.rows
  pub tables : l'.tables ≡ tables_of seed ++ drop 12288 l.tables
  pub graph : Graph (row_triples spelling (tables_of seed) n r (take n l.rows)) r l'.edges l'.vertices
  pub edges_past : drop n l'.edges ≡ drop n l.edges
  pub vertices_past : drop (2 * r) l'.vertices ≡ drop (2 * r) l.vertices
  pub heap : l'.heap ≡ l.heap
  pub ordered : l'.ordered ≡ l.ordered
  pub slots : l'.slots ≡ l.slots

-- what an order of n edges writes: of the vertices values and places, the heap below 2r, k ordered vertices, n empty slots
pub record OrderWrote {N : Type 0} (n r k : ℕ) (l l' : Memory N) : Type 0 where
  pub rows : l'.rows ≡ l.rows
  pub tables : l'.tables ≡ l.tables
  pub edges : l'.edges ≡ l.edges
  pub vertices : Begun (2 * r) l.vertices l'.vertices
  pub heap_past : drop (2 * r) l'.heap ≡ drop (2 * r) l.heap
  pub ordered_past : drop k l'.ordered ≡ drop k l.ordered
  pub slots : l'.slots ≡ replicate n None ++ drop n l.slots

-- what a fit of the vertex v by the rotation x writes: its value, and some of the first n slots
pub record FitWrote {N : Type 0} (n r v x : ℕ) (l l' : Memory N) : Type 0 where
  pub rows : l'.rows ≡ l.rows
  pub tables : l'.tables ≡ l.tables
  pub edges : l'.edges ≡ l.edges
  pub one_of : v < 2 * r
  pub vertices : l'.vertices ≡ slice_set l.vertices v (valued x (row l.vertices v))
  pub heap : l'.heap ≡ l.heap
  pub ordered : l'.ordered ≡ l.ordered
  pub slots_past : drop n l'.slots ≡ drop n l.slots

-- what a fit comes to
abbrev pub fitted : FitAnswer → Outcome
fitted x = answered.Fitted x.rotation x.tries

module _ {N : Type 0} (spelling : N → List ℕ) where
  -- enter: the row of the name after those in use, and nothing else
  pub record EnterDone (x : N) (v : ℕ) (p : Pressing N) (l : Memory N) (r : Result (Unit {0}) PressFault) (p' : Pressing N) (l' : Memory N) : Type 0 where
    pub done : Done spelling (enter (lent l) x v) (λ _. answered.Entered) (enter_gate p l) (Some SpellingEntered) p l r p' l'
    pub lists : MatchResult r (λ _. l' ≡ with_row p.count (record { name = x; setting = v }) l) (λ f. l' ≡ l)

  -- map: a clash writes what an accepted map writes, any other refusal nothing
  pub record MapDone (r seed : ℕ) (p : Pressing N) (l : Memory N) (o : Result (Unit {0}) PressFault) (p' : Pressing N) (l' : Memory N) : Type 0 where
    pub done : Done spelling (map_to (lent l) r seed) (λ _. answered.Mapped) (map_gate p l r seed) (Some Clash) p l o p' l'
    pub written : (is_ok o ≡ true) ⊎ (o ≡ Err Clash) → MapWrote spelling p.count r seed l l'
    pub kept : (f : PressFault) → o ≡ Err f → (f ≢ Clash) → l' ≡ l

  -- order
  pub record OrderDone (p : Pressing N) (l : Memory N) (o : Result ℕ PressFault) (p' : Pressing N) (l' : Memory N) : Type 0 where
    pub done : Done spelling (order_by (lent l)) (λ k. answered.Ordered k) (order_gate p l) None p l o p' l'
    pub lists : MatchResult o (λ k. OrderWrote p.count p.r k l l') (λ f. l' ≡ l)

  -- fit by a way
  pub record FitDone (w : Meaning) (p : Pressing N) (l : Memory N) (o : Result FitAnswer PressFault) (p' : Pressing N) (l' : Memory N) : Type 0 where
    pub done : Done spelling (fit (lent l) w) fitted (fit_gate p l w.size) (Some (Unfit p.level)) p l o p' l'
    pub lists : MatchResult o (λ x. FitWrote p.count p.r (slice_index l.ordered p.level) x.rotation l l') (λ f. l' ≡ l)

  -- seal: no list is altered; where the lists are as a run left them, the string is that of the run's plate;
  -- whatever they hold, what lies behind the string is as it was, and a refusal writes nothing
  pub record SealDone (kind : ℕ) (p : Pressing N) (l : Memory N) (string : List ℕ) (o : Result ℕ PressFault) (p' : Pressing N) (l' : Memory N) (string' : List ℕ) : Type 0 where
    pub done : Done spelling (seal (lent l) (length string)) (λ k. answered.Sealed k) (seal_gate p l (length string)) None p l o p' l'
    pub lists : l' ≡ l
    pub exact : (m : Run N) → Left spelling m p l → (k : ℕ) → o ≡ Ok k → take k string' ≡ sealed_string spelling kind m
    pub behind : (k : ℕ) → o ≡ Ok k → drop k string' ≡ drop k string
    pub kept : is_err o ≡ true → string' ≡ string
    pub string_long : length string' ≡ length string

  -- reopen, which is lent no list
  abbrev pub ReopenDone : Pressing N → Result (Unit {0}) PressFault → Pressing N → Type 0
  ReopenDone p r p' = (l : Memory N) → Done spelling reopen (λ _. answered.Reopened) (reopen_gate p) None p l r p' l
