-- What the lent lists hold.
use Rattle.std.specs.Prelude.{ℕ, List, length, Option, slice_set}
use Rattle.orders.specs.declared.waiting.Waiting.{Waiting}
use Rattle.graph.specs.declared.rows.Row.{Row}
use Rattle.graph.specs.declared.rows.Edge.{Edge}
use Rattle.graph.specs.declared.rows.Vertex.{Vertex}
use Rattle.runs.specs.Runs.{Lent}
use Rattle.std.specs.Borrow.{MutBor}
use Rattle.pressing.specs.declared.lists.Lists.{Lists}

pub record Memory (N : Type 0) : Type 0 where
  pub rows : List (Row N)
  pub tables : List ℕ
  pub edges : List Edge
  pub vertices : List Vertex
  pub heap : List Waiting
  pub ordered : List ℕ
  pub slots : List (Option ℕ)

abbrev pub memory : {N : Type 0} → List (Row N) → List ℕ → List Edge → List Vertex → List Waiting → List ℕ → List (Option ℕ) → Memory N
memory rows tables edges vertices heap ordered slots = record { rows = rows; tables = tables; edges = edges; vertices = vertices; heap = heap; ordered = ordered; slots = slots }

-- what lists that are lent to a call hold
abbrev pub held : {N : Type 0} → Lists N → Memory N
held l = memory l.rows.now l.tables.now l.edges.now l.vertices.now l.heap.now l.ordered.now l.slots.now

-- what the call leaves in them
abbrev pub left_in : {N : Type 0} → MutBor (List (Row N)) × (MutBor (List ℕ) × (MutBor (List Edge) × (MutBor (List Vertex) × (MutBor (List Waiting) × (MutBor (List ℕ) × (MutBor (List (Option ℕ)) × Unit {0})))))) → Memory N
left_in l = memory l.0.now l.1.0.now l.1.1.0.now l.1.1.1.0.now l.1.1.1.1.0.now l.1.1.1.1.1.0.now l.1.1.1.1.1.1.0.now

-- of each list its length
abbrev pub lent : {N : Type 0} → Memory N → Lent
lent l = record { rows = length l.rows; tables = length l.tables; edges = length l.edges; vertices = length l.vertices; heap = length l.heap; ordered = length l.ordered; slots = length l.slots }

-- a row written at a place, everything else as it was
abbrev pub with_row : {N : Type 0} → ℕ → Row N → Memory N → Memory N
with_row i x l = record { rows = slice_set l.rows i x; tables = l.tables; edges = l.edges; vertices = l.vertices; heap = l.heap; ordered = l.ordered; slots = l.slots }
