-- The vertices that wait for their place, the order as it is written, and what `order` answers and leaves.
use Rattle.std.specs.Prelude.{◌≡◌, ℕ, ◌*◌, ◌<◌, ◌≤◌, Bool, true, false, cond, ◌&&◌, List, length, take, drop, Some, None, sum_by, Option, ◌==◌, ◌≢◌, nat_le, slice_index}
use Rattle.std.specs.List.{AllByRecursion}
use Rattle.std.specs.Borrow.{MutBor}
use Rattle.heap.specs.Order.{SameLoan}
use Rattle.hashing.specs.Triples.{Triple}
use Rattle.runs.specs.Lists.{among}
use Rattle.runs.specs.Order.{degree, order, Best, Next}
use Rattle.orders.specs.declared.waiting.Waiting.{Waiting}
use Rattle.graph.specs.declared.rows.Edge.{Edge}
use Rattle.graph.specs.declared.rows.Vertex.{Vertex}
use Rattle.graph.specs.declared.rows.Place.{Place}
use Rattle.graph.specs.declared.rows.Place.TheVariants.{Unseen, Waits, At}
use Rattle.graph.specs.Chains.{row, Graph}

-- the slice lent to the heap is the same, and as long
abbrev pub SameRoom : MutBor (List Waiting) → MutBor (List Waiting) → Type 0
SameRoom old new = SameLoan old new × (length new.now ≡ length old.now)

-- the vertices 0 to 2r - 1 are there, and are not too many
abbrev pub HasSides : ℕ → List Vertex → Type 0
HasSides r vertices = (2 * r ≤ length vertices) × (r ≤ 1024)

-- each vertex has a number of 16 bits
abbrev pub Numbered : List Vertex → Type 0
Numbered vertices = length vertices ≤ 65536

abbrev pub is_unseen : Place → Bool
is_unseen Unseen = true
is_unseen Waits = false
is_unseen (At k) = false

-- how often a vertex waits
abbrev pub waiting : Place → ℕ
waiting Unseen = 0
waiting Waits = 1
waiting (At k) = 0

-- where the vertex u stands, if vs are ordered and those that pass `seen` share an edge with one of them
abbrev pub Stands : List ℕ → (ℕ → Bool) → ℕ → Place → Type 0
Stands vs seen u Unseen = (among u vs ≡ false) × (seen u ≡ false)
Stands vs seen u Waits = (among u vs ≡ false) × (seen u ≡ true)
Stands vs seen u (At k) = (k < length vs) × (slice_index vs k ≡ u)

abbrev pub is_of : ℕ → Waiting → ℕ
is_of u w = cond (u == w.vertex) 1 0

abbrev pub times_in : ℕ → List Waiting → ℕ
times_in u hs = sum_by (is_of u) hs

pub record Known (m : ℕ) (weight : ℕ → ℕ) (w : Waiting) : Type 0 where
  pub below : w.vertex < m
  pub weighs : w.degree ≡ weight w.vertex

-- the vertices have their places, and those that wait are in the heap, each once
pub record Queued (m : ℕ) (weight : ℕ → ℕ) (vs : List ℕ) (seen : ℕ → Bool) (vertices : List Vertex) (hs : List Waiting) : Type 0 where
  pub stands : (u : ℕ) → u < m → Stands vs seen u (row vertices u).place
  pub once : (u : ℕ) → u < m → times_in u hs ≡ waiting (row vertices u).place
  pub known : AllByRecursion (Known m weight) hs

abbrev pub degree_at : List Vertex → ℕ → ℕ
degree_at vertices u = (row vertices u).degree

abbrev pub unseen_at : List Vertex → ℕ → Bool
unseen_at vertices u = is_unseen (row vertices u).place

-- only places of the first m vertices were altered, and none is unseen again
pub record Replaced (m : ℕ) (vertices vertices' : List Vertex) : Type 0 where
  pub first : (v : ℕ) → (row vertices' v).first ≡ (row vertices v).first
  pub degree : (v : ℕ) → (row vertices' v).degree ≡ (row vertices v).degree
  pub value : (v : ℕ) → (row vertices' v).value ≡ (row vertices v).value
  pub unseen : (v : ℕ) → unseen_at vertices' v ≡ true → unseen_at vertices v ≡ true
  pub rest : drop m vertices' ≡ drop m vertices

-- the degrees are those that `weight` says
abbrev pub Weighed : ℕ → (ℕ → ℕ) → List Vertex → Type 0
Weighed m weight vertices = (u : ℕ) → u < m → (row vertices u).degree ≡ weight u

-- the unseen vertex of greatest degree above 0, of those the lowest, or none has a degree above 0
abbrev pub Greatest : (ℕ → ℕ) → (ℕ → Bool) → ℕ → Option ℕ → Type 0
Greatest weight ok m None = (u : ℕ) → u < m → ok u ≡ true → weight u ≡ 0
Greatest weight ok m (Some b) = Best weight ok m b

-- no unseen vertex below m comes before b, which need not be unseen
pub record Led (m : ℕ) (vertices : List Vertex) (b : ℕ) : Type 0 where
  pub below : b < m
  pub above_zero : 0 < degree_at vertices b
  pub greatest_weight : (u : ℕ) → u < m → unseen_at vertices u ≡ true → degree_at vertices u ≤ degree_at vertices b
  pub lowest : (u : ℕ) → u < m → unseen_at vertices u ≡ true → degree_at vertices u ≡ degree_at vertices b → b ≤ u

abbrev pub Bounded : ℕ → List Vertex → Option ℕ → Type 0
Bounded m vertices None = Unit {0}
Bounded m vertices (Some b) = Led m vertices b

abbrev pub Resumed : ℕ → List Vertex → Option ℕ → Type 0
Resumed m vertices None = Unit {0}
Resumed m vertices (Some v) = Best (degree_at vertices) (unseen_at vertices) m v

-- hs' is hs without v
pub record Without (m : ℕ) (weight : ℕ → ℕ) (v : ℕ) (hs hs' : List Waiting) : Type 0 where
  pub others : (u : ℕ) → (u ≢ v) → times_in u hs' ≡ times_in u hs
  pub gone : times_in v hs' ≡ 0
  pub known : AllByRecursion (Known m weight) hs'

-- the vertex that is next after vs is taken from the heap, or found; or none is left
abbrev pub Chosen : List Triple → ℕ → List ℕ → List Waiting → List Waiting → Option ℕ → Type 0
Chosen es r vs hs hs' None = (u : ℕ) → u < 2 * r → 0 < degree es u → among u vs ≡ true
Chosen es r vs hs hs' (Some v) = Next es r vs v × Without (2 * r) (degree es) v hs hs'

abbrev pub Low : ℕ → Option ℕ → Type 0
Low m None = Unit {0}
Low m (Some v) = v < m

abbrev pub at_place : Place → Vertex → Vertex
at_place p x = record { first = x.first; degree = x.degree; value = x.value; place = p }

abbrev pub fresh : Vertex → Vertex
fresh x = record { first = x.first; degree = x.degree; value = 0; place = Unseen }

-- where a vertex is when vs are all that are ordered
abbrev pub Placed : List ℕ → ℕ → Place → Type 0
Placed vs v Unseen = among v vs ≡ false
Placed vs v Waits = ⊥
Placed vs v (At k) = (k < length vs) × (slice_index vs k ≡ v)

-- the rows hold the graph still, and its order, of k vertices
pub record OrderedGraph (es : List Triple) (r : ℕ) (edges : List Edge) (vertices : List Vertex) (ordered : List ℕ) (k : ℕ) : Type 0 where
  pub graph : Graph es r edges vertices
  pub counted : k ≡ length (order es r)
  pub listed : take k ordered ≡ order es r
  pub placed : (v : ℕ) → v < 2 * r → Placed (order es r) v (row vertices v).place

-- of the vertices only values and places of the first m were altered, and the values are 0
pub record Begun (m : ℕ) (vertices vertices' : List Vertex) : Type 0 where
  pub first : (v : ℕ) → (row vertices' v).first ≡ (row vertices v).first
  pub degree : (v : ℕ) → (row vertices' v).degree ≡ (row vertices v).degree
  pub value : (v : ℕ) → v < m → (row vertices' v).value ≡ 0
  pub rest : drop m vertices' ≡ drop m vertices

-- r is at most 1,024, and lists of these lengths have the places for the order of n edges and 2r vertices
abbrev pub order_fits : ℕ → ℕ → ℕ → ℕ → ℕ → ℕ → Bool
order_fits n r edges vertices room ordered = nat_le r 1024 && (nat_le n edges && (nat_le (2 * r) vertices && (nat_le (2 * r) room && nat_le (2 * r) ordered)))

-- a list was too short, and nothing has changed
pub record OrderRefused (fits : Bool) (vertices vertices' : List Vertex) (room room' : List Waiting) (ordered ordered' : List ℕ) : Type 0 where
  pub short : fits ≡ false
  pub vertices_same : vertices' ≡ vertices
  pub room_same : room' ≡ room
  pub ordered_same : ordered' ≡ ordered

-- k vertices were ordered: where the lists hold a graph of n edges, k and what is written are its order;
-- whatever they hold, all places past the first 2r vertices, the first 2r places of `room` and the first k ordered are as they were
pub record OrderWritten (fits : Bool) (n r : ℕ) (edges : List Edge) (vertices vertices' : List Vertex) (room room' : List Waiting) (ordered ordered' : List ℕ) (k : ℕ) : Type 0 where
  pub long : fits ≡ true
  pub low : k ≤ 2 * r
  pub begun : Begun (2 * r) vertices vertices'
  pub room_past : drop (2 * r) room' ≡ drop (2 * r) room
  pub ordered_past : drop k ordered' ≡ drop k ordered
  pub exact : (es : List Triple) → length es ≡ n → Graph es r edges vertices → OrderedGraph es r edges vertices' ordered' k
