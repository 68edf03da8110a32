-- The graph of some triples, held in lists of edges and vertices.
use Rattle.std.specs.Prelude.{◌≡◌, ℕ, zero, suc, ◌+◌, ◌*◌, ◌<◌, ◌≤◌, Bool, true, false, cond, List, length, ◌==◌, slice_index_or, slice_set}
use Rattle.std.specs.List.{AllByRecursion}
use Rattle.hashing.specs.Triples.{Triple}
use Rattle.runs.specs.Order.{touches, degree}
use Rattle.runs.specs.Lists.{repeats}
use Rattle.runs.specs.Runs.{same_triple}
use Rattle.graph.specs.declared.rows.Edge.{Edge}
use Rattle.graph.specs.declared.rows.Vertex.{Vertex}
use Rattle.graph.specs.declared.rows.Place.TheVariants.{Unseen}

-- three numbers as a triple
abbrev pub of_tuple : ℕ × ℕ × ℕ → Triple
of_tuple t = record { h0 = t.0; h1 = t.1; h2 = t.2 }

-- an edge joins a vertex of the lower half to one of the upper
pub record Halves (r : ℕ) (e : Triple) : Type 0 where
  pub low : e.h1 < r
  pub high : r ≤ e.h2
  pub below : e.h2 < 2 * r

-- how many of the first k numbers there are up to the last that passes, and 0 where none does
abbrev pub latest : (ℕ → Bool) → ℕ → ℕ
latest p zero = zero
latest p (suc k) = cond (p k) (suc k) (latest p k)

-- what is read past the end of triples, of edges and of vertices
abbrev pub nil : Triple
nil = record { h0 = 0; h1 = 0; h2 = 0 }

-- the edge j is at v; it has the first, or the second vertex of the edge i
abbrev pub at_vertex : List Triple → ℕ → ℕ → Bool
at_vertex es v j = touches v (slice_index_or es j nil)

abbrev pub same1 : List Triple → ℕ → ℕ → Bool
same1 es i j = (slice_index_or es i nil).h1 == (slice_index_or es j nil).h1

abbrev pub same2 : List Triple → ℕ → ℕ → Bool
same2 es i j = (slice_index_or es i nil).h2 == (slice_index_or es j nil).h2

-- the row of the edge i
pub record Linked (es : List Triple) (i : ℕ) (e : Edge) : Type 0 where
  pub h0 : e.h0 ≡ (slice_index_or es i nil).h0
  pub h1 : e.h1 ≡ (slice_index_or es i nil).h1
  pub h2 : e.h2 ≡ (slice_index_or es i nil).h2
  pub next1 : e.next1 ≡ latest (same1 es i) i
  pub next2 : e.next2 ≡ latest (same2 es i) i

-- the row of the vertex v
pub record Headed (es : List Triple) (v : ℕ) (x : Vertex) : Type 0 where
  pub first : x.first ≡ latest (at_vertex es v) (length es)
  pub degree : x.degree ≡ degree es v

abbrev pub blank : Edge
blank = record { h0 = 0; h1 = 0; h2 = 0; next1 = 0; next2 = 0 }

abbrev pub bare : Vertex
bare = record { first = 0; degree = 0; value = 0; place = Unseen }

abbrev pub link : List Edge → ℕ → Edge
link edges i = slice_index_or edges i blank

abbrev pub row : List Vertex → ℕ → Vertex
row vertices v = slice_index_or vertices v bare

-- the rows hold the edges es
abbrev pub Edges : List Triple → List Edge → Type 0
Edges es edges = (i : ℕ) → i < length es → Linked es i (link edges i)

-- the rows hold the edges es between the vertices 0 to 2r - 1
pub record Graph (es : List Triple) (r : ℕ) (edges : List Edge) (vertices : List Vertex) : Type 0 where
  pub halves : AllByRecursion (Halves r) es
  pub edge : Edges es edges
  pub vertex : (v : ℕ) → v < 2 * r → Headed es v (row vertices v)

-- a vertex with one more edge, to which the link `upto` leads
abbrev pub headed : ℕ → Vertex → Vertex
headed upto x = record { first = upto; degree = x.degree + 1; value = x.value; place = x.place }

-- the vertices after edge k, of triple t, stands before the others at its first vertex; and at its second too
abbrev pub once_at : ℕ → Triple → List Vertex → List Vertex
once_at k t vertices = slice_set vertices t.h1 (headed (k + 1) (row vertices t.h1))

abbrev pub twice_at : ℕ → Triple → List Vertex → List Vertex
twice_at k t vertices = slice_set (once_at k t vertices) t.h2 (headed (k + 1) (row (once_at k t vertices) t.h2))

-- the edge that was put there
abbrev pub edge_at : ℕ → Triple → List Vertex → Edge
edge_at k t vertices = record { h0 = t.h0; h1 = t.h1; h2 = t.h2; next1 = (row vertices t.h1).first; next2 = (row (once_at k t vertices) t.h2).first }

-- whether an edge before i has its triple
abbrev pub Repeats : List Triple → ℕ → Bool → Type 0
Repeats es i true = (j : ℕ) × (j < i) × (same_triple (slice_index_or es i nil) (slice_index_or es j nil) ≡ true)
Repeats es i false = (j : ℕ) → j < i → same_triple (slice_index_or es i nil) (slice_index_or es j nil) ≡ false

-- two of the triples are equal
abbrev pub clashes : List Triple → Bool
clashes es = repeats same_triple es
