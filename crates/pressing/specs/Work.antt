-- What the work of map and order leaves in lists that are long enough.
use Rattle.std.specs.Prelude.{◌≡◌, ℕ, ◌*◌, ◌≤◌, not, List, ◌++◌, length, take, drop, replicate, None, Option, Result}
use Rattle.refusals.specs.Checks.{unless, with_value}
use Rattle.hashing.specs.Generator.{tables as tables_of}
use Rattle.hashing.specs.Triples.{Triple}
use Rattle.graph.specs.declared.rows.Row.{Row}
use Rattle.graph.specs.declared.rows.Edge.{Edge}
use Rattle.graph.specs.declared.rows.Vertex.{Vertex}
use Rattle.graph.specs.Chains.{Graph, clashes}
use Rattle.graph.specs.Mapping.{row_triples}
use Rattle.orders.specs.declared.waiting.Waiting.{Waiting}
use Rattle.ordering.specs.Queue.{Begun, OrderedGraph}
use Rattle.runs.specs.declared.fault.PressFault.{PressFault}
use Rattle.runs.specs.declared.fault.PressFault.TheVariants.{Clash}

-- tables, edges and vertices of the first n rows; refused exactly if two of their triples are equal
pub record MapWorked {N : Type 0} (spelling : N → List ℕ) (n r seed : ℕ) (rows : List (Row N)) (tables tables' : List ℕ) (edges edges' : List Edge) (vertices vertices' : List Vertex) (o : Result (Unit {0}) PressFault) : Type 0 where
  pub tables_drawn : tables' ≡ tables_of seed ++ drop 12288 tables
  pub graph : Graph (row_triples spelling (tables_of seed) n r (take n rows)) r edges' vertices'
  pub edges_past : drop n edges' ≡ drop n edges
  pub vertices_past : drop (2 * r) vertices' ≡ drop (2 * r) vertices
  pub answer : o ≡ with_value (unless (not (clashes (row_triples spelling (tables_of seed) n r (take n rows)))) Clash) tt

pub record OrderWorked (n r : ℕ) (edges : List Edge) (vertices vertices' : List Vertex) (heap heap' : List Waiting) (ordered ordered' : List ℕ) (slots slots' : List (Option ℕ)) (k : ℕ) : Type 0 where
  pub few : k ≤ 2 * r
  pub begun : Begun (2 * r) vertices vertices'
  pub heap_past : drop (2 * r) heap' ≡ drop (2 * r) heap
  pub ordered_past : drop k ordered' ≡ drop k ordered
  pub slots_empty : slots' ≡ replicate n None ++ drop n slots
  pub exact : (es : List Triple) → length es ≡ n → Graph es r edges vertices → OrderedGraph es r edges vertices' ordered' k
