-- The triples of the rows, as they are hashed one by one.
use Rattle.std.proofs.Common.{◌≡◌, ℕ, ◌+◌, ◌*◌, ◌<◌, ◌≤◌, true, ◌&&◌, leb, List, [], ◌∷◌, ◌++◌, length, get_or, take, drop, set, Some, None, sym, ap, ◌∙◌, subst, mod-lt, arith}
use Rattle.std.proofs.lemmas.Bool.{leb-true, le-leb, and_parts, and_from, cond-true}
use Rattle.std.proofs.lemmas.List.{length-map, length-take, length-take-le, get_or-take, map_more}
use Rattle.names.specs.Spellings.{in_range}
use Rattle.hashing.specs.Triples.{Triple, sum, triple, members, hashed}
use Rattle.graph.specs.declared.rows.Row.{Row}
use Rattle.graph.specs.declared.rows.Edge.{Edge}
use Rattle.graph.specs.declared.rows.Vertex.{Vertex}
use Rattle.graph.specs.Chains.{of_tuple, Halves, Graph, row, twice_at, edge_at}
use Rattle.graph.specs.Mapping.{row_triple, row_triples, map_fits}
use Rattle.graph.proofs.Built.{degree_first, degree_second, attached, past_both}

pub triple_halves : (t : List ℕ) (n r : ℕ) (s : List ℕ) → 1 ≤ r → Halves r (triple t n r s)
triple_halves t n r s l = record {
  low = mod-lt (sum t 1 s) (omega arith);
  high = omega arith;
  below = omega (arith, mod-lt (sum t 2 s) {m = r} (omega arith));
}

-- from long tables each spelling of 1 to 16 bytes has its triple
module _ (t : List ℕ) (n r : ℕ) (s : List ℕ) (long : 12288 ≤ length t) (some : 1 ≤ length s) (few : length s ≤ 16) where
  hashed_is : hashed t n r s ≡ Some (members (triple t n r s))
  hashed_is = cond-true (leb 12288 (length t) && in_range 1 16 (length s)) (Some (members (triple t n r s))) None
      (and_from (leb 12288 (length t)) (in_range 1 16 (length s)) (le-leb 12288 (length t) long) (and_from (leb 1 (length s)) (leb (length s) 16) (le-leb 1 (length s) some) (le-leb (length s) 16 few)))

  pub hashed_tuple : (u : ℕ × ℕ × ℕ) → Some u ≡ hashed t n r s → of_tuple u ≡ triple t n r s
  hashed_tuple u e = let f = hashed_is in let z : u ≡ members (triple t n r s) = cc in ap of_tuple z

-- what the test of the lengths says
pub record Fitted (count r rows tables edges vertices : ℕ) : Type 0 where
  pub few : count ≤ 1024
  pub tables_there : 12288 ≤ tables
  pub edges_there : count ≤ edges
  pub vertices_there : 2 * r ≤ vertices

pub fitted : (count r rows tables edges vertices : ℕ) → map_fits count r rows tables edges vertices ≡ true → Fitted count r rows tables edges vertices
fitted count r rows tables edges vertices h =
    let a = and_parts (leb count 1024) _ h in
    let b = and_parts (leb count rows) _ a.1 in
    let d = and_parts (leb 12288 tables) _ b.1 in
    let e = and_parts (leb count edges) (leb (2 * r) vertices) d.1 in
    record {
      few = leb-true count 1024 a.0;
      tables_there = leb-true 12288 tables d.0;
      edges_there = leb-true count edges e.0;
      vertices_there = leb-true (2 * r) vertices e.1;
    }

module _ {N : Type 0} (spell : N → List ℕ) (t : List ℕ) (n r : ℕ) (rows : List (Row N)) (i : ℕ) where
  pub triples_long : i ≤ length rows → length (row_triples spell t n r (take i rows)) ≡ i
  triples_long l = length-map (take i rows) (row_triple spell t n r) ∙ length-take-le i rows l

-- an element of the first k
pub taken_at : {X : Type 0} (xs : List X) (k i : ℕ) (x : X) → i < length (take k xs) → x ≡ get_or (take k xs) i x → (i < k) × (i < length xs) × (x ≡ get_or xs i x)
taken_at xs k i x l e =
    let a : i < k = omega (arith, length-take k xs) in
    (a, omega (arith, length-take k xs), e ∙ get_or-take k xs i x a)

-- what a turn of the mapping needs and leaves: the name of row i has the three numbers u, and the triples `before` become `after`
pub record Turn (before after : List Triple) (u : ℕ × ℕ × ℕ) (i r : ℕ) (edges : List Edge) (vs : List Vertex) : Type 0 where
  pub halves : Halves r (of_tuple u)
  pub degree_first : (row vs u.1).degree ≤ i
  pub degree_second : (row vs u.2).degree ≤ i
  pub graph : 2 * r ≤ length vs → i < length edges → (edges' : List Edge) (vs' : List Vertex) → edges' ≡ set edges i (edge_at i (of_tuple u) vs) → vs' ≡ twice_at i (of_tuple u) vs → Graph after r edges' vs'
  pub past : (vs' : List Vertex) → vs' ≡ twice_at i (of_tuple u) vs → drop (2 * r) vs' ≡ drop (2 * r) vs

module _ {N : Type 0} (spell : N → List ℕ) (from_1 : (x : N) → 1 ≤ length (spell x)) (to_16 : (x : N) → length (spell x) ≤ 16)
    (t : List ℕ) (n r : ℕ) (rows : List (Row N)) (i : ℕ) (x : Row N) (u : ℕ × ℕ × ℕ)
    (lt : 12288 ≤ length t) (at : (i < length rows) × (x ≡ get_or rows i x)) (e : Some u ≡ hashed t n r (spell x.name)) (some : 1 ≤ r)
    (edges : List Edge) (vs : List Vertex) (g : Graph (row_triples spell t n r (take i rows)) r edges vs) where
  abbrev before : List Triple
  before = row_triples spell t n r (take i rows)

  is_triple : of_tuple u ≡ row_triple spell t n r x
  is_triple = hashed_tuple t n r (spell x.name) lt (from_1 x.name) (to_16 x.name) u e

  halves : Halves r (of_tuple u)
  halves = subst (Halves r) (sym is_triple) (triple_halves t n r (spell x.name) some)

  long : length before ≡ i
  long = triples_long spell t n r rows i (omega (arith, at.0))

  more : before ++ of_tuple u ∷ [] ≡ row_triples spell t n r (take (i + 1) rows)
  more = ap (λ y. before ++ y ∷ []) (is_triple ∙ ap (row_triple spell t n r) at.1) ∙ sym (map_more (row_triple spell t n r) rows i x at.0)

  pub turn : Turn before (row_triples spell t n r (take (i + 1) rows)) u i r edges vs
  turn = record {
    halves = halves;
    degree_first = degree_first before (of_tuple u) i r edges vs halves long g;
    degree_second = degree_second before (of_tuple u) i r edges vs halves long g;
    graph = λ lv le edges' vs' a b. subst (λ ts. Graph ts r edges' vs') more (attached before (of_tuple u) i r edges vs halves long g lv le edges' vs' a b);
    past = λ vs' b. past_both before (of_tuple u) i r edges vs halves long g vs' b;
  }
