-- One level of a graph in work lists: its names, the slots that they fill, and what a fit of it answers and leaves.
use Rattle.std.specs.Prelude.{◌≡◌, ℕ, zero, suc, ◌+◌, ◌*◌, ◌<◌, Bool, false, cond, ◌&&◌, List, [], ◌∷◌, ◌++◌, map, length, take, drop, is_some, Some, None, Option, ◌==◌, nat_le, nat_lt, slice_index, slice_index_or, slice_set}
use Rattle.std.specs.List.{range_with_len}
use Rattle.hashing.specs.Triples.{Triple}
use Rattle.ways.specs.Permutation.{Meaning, asked}
use Rattle.runs.specs.Lists.{among}
use Rattle.runs.specs.Order.{joins, order}
use Rattle.runs.specs.Fitting.{slot, level_of, offset, turned, settles, first_fit}
use Rattle.graph.specs.declared.rows.Edge.{Edge}
use Rattle.graph.specs.declared.rows.Vertex.{Vertex}
use Rattle.graph.specs.declared.rows.Place.{Place}
use Rattle.graph.specs.declared.rows.Place.TheVariants.{Unseen, Waits, At}
use Rattle.graph.specs.Chains.{nil, row}
use Rattle.ordering.specs.Queue.{OrderedGraph}
use Rattle.fitting.specs.declared.level.LevelName.{LevelName}

-- there are 1 to 1,024 names and r is at most 1,024, and lists of these lengths have the places for a fit of the level
abbrev pub level_fits : ℕ → ℕ → ℕ → ℕ → ℕ → ℕ → ℕ → Bool
level_fits n r level edges vertices ordered slots = nat_le 1 n && (nat_le n 1024 && (nat_le n edges && (nat_le r 1024 && (nat_le (2 * r) vertices && (nat_lt level ordered && nat_le n slots)))))

-- a place is one of the first `level` of the order
abbrev pub comes_before : ℕ → Place → Bool
comes_before level Unseen = false
comes_before level Waits = false
comes_before level (At k) = nat_lt k level

-- the first m vertices have these values
abbrev pub Valued : ℕ → List ℕ → List Vertex → Type 0
Valued m values vertices = (u : ℕ) → u < m → (row vertices u).value ≡ slice_index values u

-- a vertex with this value
abbrev pub valued : ℕ → Vertex → Vertex
valued x a = record { first = a.first; degree = a.degree; value = x; place = a.place }

-- what f makes of the numbers below k that pass, the greatest first
abbrev pub down : (ℕ → Bool) → (ℕ → LevelName) → ℕ → List LevelName
down p f zero = []
down p f (suc k) = cond (p k) (f k ∷ down p f k) (down p f k)

-- the name i is in the level of v, where vs are the earlier vertices; and its row with its offset
abbrev pub in_level : List Triple → List ℕ → ℕ → ℕ → Bool
in_level es vs v i = joins vs v (slice_index_or es i nil)

abbrev pub level_name : List Triple → ℕ → List ℕ → ℕ → ℕ → LevelName
level_name es n values v i = record { row = i; offset = offset n values v (slice_index_or es i nil) }

-- the names of the level of v among the first k, the latest first
abbrev pub chain_names : List Triple → ℕ → List ℕ → List ℕ → ℕ → ℕ → List LevelName
chain_names es n values vs v k = down (in_level es vs v) (level_name es n values v) k

-- the first of the numbers i, i + 1, .. (k of them) that passes
abbrev pub first_where : (ℕ → Bool) → ℕ → ℕ → Option ℕ
first_where p zero i = None
first_where p (suc k) i = cond (p i) (Some i) (first_where p k (suc i))

-- the name i is settled by the vertices vs and has the slot s
abbrev pub fills : List Triple → ℕ → List ℕ → List ℕ → ℕ → ℕ → Bool
fills es n values vs s i = settles vs (slice_index_or es i nil) && slot n values (slice_index_or es i nil) == s

-- the row of the name that fills the slot s, if the vertices vs have been fitted: the first of the settled names that has this slot
abbrev pub filler : List Triple → ℕ → List ℕ → List ℕ → ℕ → Option ℕ
filler es n values vs s = first_where (fills es n values vs s) (length es) 0

-- what the n slots hold then
abbrev pub slot_rows : List Triple → ℕ → List ℕ → List ℕ → List (Option ℕ)
slot_rows es n values vs = map (filler es n values vs) (range_with_len 0 n)

-- nothing has changed
pub record Unchanged (vertices vertices' : List Vertex) (slots slots' : List (Option ℕ)) : Type 0 where
  pub vertices_same : vertices' ≡ vertices
  pub slots_same : slots' ≡ slots

-- the vertex v, one of the first m, has the value x, and nothing else of the vertices has changed; nor have the slots past the first n
pub record LevelGiven (n m v x : ℕ) (vertices vertices' : List Vertex) (slots slots' : List (Option ℕ)) : Type 0 where
  pub low : v < m
  pub given : vertices' ≡ slice_set vertices v (valued x (row vertices v))
  pub first : (u : ℕ) → (row vertices' u).first ≡ (row vertices u).first
  pub degree : (u : ℕ) → (row vertices' u).degree ≡ (row vertices u).degree
  pub place : (u : ℕ) → (row vertices' u).place ≡ (row vertices u).place
  pub vertices_past : drop m vertices' ≡ drop m vertices
  pub slots_past : drop n slots' ≡ drop n slots

-- edges, vertices, order and slots are as the fits of the first `level` vertices left them
pub record LevelHeld (es : List Triple) (r n : ℕ) (values filled : List ℕ) (level : ℕ) (edges : List Edge) (vertices : List Vertex) (ordered : List ℕ) (slots : List (Option ℕ)) : Type 0 where
  pub counted : length es ≡ n
  pub graph : OrderedGraph es r edges vertices ordered (length (order es r))
  pub inside : level < length (order es r)
  pub value_count : length values ≡ 2 * r
  pub value_at : Valued (2 * r) values vertices
  pub rows : take n slots ≡ slot_rows es n values (take level (order es r))
  pub filled_at : (s : ℕ) → s < n → among s filled ≡ is_some (filler es n values (take level (order es r)) s)

-- the vertex of a level, and the offsets of its names
abbrev pub level_vertex : List Triple → ℕ → ℕ → ℕ
level_vertex es r level = slice_index (order es r) level

abbrev pub level_offsets : List Triple → ℕ → ℕ → List ℕ → ℕ → List ℕ
level_offsets es r n values level = map (offset n values (level_vertex es r level)) (level_of es (take level (order es r)) (level_vertex es r level))

-- the lists after the vertex of the level got the value x
pub record LevelNext (es : List Triple) (r n : ℕ) (values filled : List ℕ) (level x : ℕ) (edges : List Edge) (vertices : List Vertex) (ordered : List ℕ) (slots : List (Option ℕ)) : Type 0 where
  pub graph : OrderedGraph es r edges vertices ordered (length (order es r))
  pub value_at : Valued (2 * r) (slice_set values (level_vertex es r level) x) vertices
  pub rows : take n slots ≡ slot_rows es n (slice_set values (level_vertex es r level) x) (take (level + 1) (order es r))
  pub filled_at : (s : ℕ) → s < n → among s (filled ++ turned n x (level_offsets es r n values level)) ≡ is_some (filler es n (slice_set values (level_vertex es r level) x) (take (level + 1) (order es r)) s)

-- what a fit of the level answers, and the lists where it finds a rotation
pub record LevelFitted (way : Meaning) (es : List Triple) (r n : ℕ) (values filled : List ℕ) (level : ℕ) (edges : List Edge) (vertices : List Vertex) (ordered : List ℕ) (slots : List (Option ℕ)) (o : Option (ℕ × ℕ)) : Type 0 where
  pub answer : o ≡ first_fit n (asked way level) filled (level_offsets es r n values level) n 0
  pub next : (x tries : ℕ) → o ≡ Some (x, tries) → LevelNext es r n values filled level x edges vertices ordered slots
