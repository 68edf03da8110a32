-- The triples of the names in the rows, and what a mapping of them answers and leaves.
use Rattle.std.specs.Prelude.{◌≡◌, ℕ, ◌*◌, Bool, true, false, ◌&&◌, List, map, drop, nat_le}
use Rattle.hashing.specs.Triples.{Triple, triple}
use Rattle.graph.specs.declared.rows.Row.{Row}
use Rattle.graph.specs.declared.rows.Edge.{Edge}
use Rattle.graph.specs.declared.rows.Vertex.{Vertex}
use Rattle.graph.specs.Chains.{Graph}

-- the triple of the name in a row, where `spell` tells spellings
abbrev pub row_triple : {N : Type 0} → (N → List ℕ) → List ℕ → ℕ → ℕ → Row N → Triple
row_triple spell tables n r x = triple tables n r (spell x.name)

abbrev pub row_triples : {N : Type 0} → (N → List ℕ) → List ℕ → ℕ → ℕ → List (Row N) → List Triple
row_triples spell tables n r rows = map (row_triple spell tables n r) rows

-- at most 1,024 rows are mapped, and lists of these lengths have the places for it
abbrev pub map_fits : ℕ → ℕ → ℕ → ℕ → ℕ → ℕ → Bool
map_fits count r rows tables edges vertices = nat_le count 1024 && (nat_le count rows && (nat_le 12288 tables && (nat_le count edges && nat_le (2 * r) vertices)))

-- a list was too short, and nothing has changed
pub record MapRefused (fits : Bool) (edges edges' : List Edge) (vertices vertices' : List Vertex) : Type 0 where
  pub short : fits ≡ false
  pub edges_same : edges' ≡ edges
  pub vertices_same : vertices' ≡ vertices

-- the lists hold the graph of the triples es, and all places past its `count` edges and 2r vertices are as they were
pub record MapWritten (fits : Bool) (es : List Triple) (count r : ℕ) (edges edges' : List Edge) (vertices vertices' : List Vertex) : Type 0 where
  pub long : fits ≡ true
  pub graph : Graph es r edges' vertices'
  pub edges_past : drop count edges' ≡ drop count edges
  pub vertices_past : drop (2 * r) vertices' ≡ drop (2 * r) vertices
