-- The vertices taken so far are the first of the order.
use Rattle.std.proofs.Common.{◌≡◌, ℕ, ◌+◌, ◌-◌, ◌*◌, ◌<◌, ◌≤◌, true, false, ◌||◌, eqb, List, [], ◌∷◌, ◌++◌, length, get_or, take, drop, set, Some, sym, refl, ap, ◌∙◌, subst, inl, inr, arith}
use Rattle.std.proofs.lemmas.Bool.{cases_eq, cases_lt, both_ways, and_right}
use Rattle.std.proofs.lemmas.List.{length_push, get_or_push, get_or_append_left, take-append-le, take_at, take_more_set, length-take-le, get_or-drop}
use Rattle.orders.specs.declared.waiting.Waiting.{Waiting}
use Rattle.hashing.specs.Triples.{Triple}
use Rattle.runs.specs.Lists.{among}
use Rattle.runs.specs.Order.{degree, joined, order, Next}
use Rattle.runs.proofs.Times.{among_times, each_once}
use Rattle.runs.proofs.Ordering.{Lined, lined_push, next_waits}
use Rattle.runs.proofs.OrderOf.{one_order}
use Rattle.graph.specs.declared.rows.Edge.{Edge}
use Rattle.graph.specs.declared.rows.Vertex.{Vertex}
use Rattle.graph.specs.declared.rows.Place.{Place}
use Rattle.graph.specs.declared.rows.Place.TheVariants.{Unseen, Waits, At}
use Rattle.graph.specs.Chains.{bare, Graph, row}
use Rattle.ordering.specs.Queue.{waiting, Stands, Queued, Replaced, Chosen, Placed, OrderedGraph, Begun, at_place, fresh}
use Rattle.graph.proofs.Walked.{graph_whole}
use Rattle.ordering.proofs.Queues.{replaced_one}
use Rattle.ordering.proofs.Choosing.{joined_degree, placed}

joined_none : (es : List Triple) (u : ℕ) → joined es [] u ≡ false
joined_none [] u = refl
joined_none (e ∷ es) u = λ k. (and_right (eqb u e.h1) false refl k || and_right (eqb u e.h2) false refl k) || joined_none es u k

row_past : (m : ℕ) (a b : List Vertex) → drop m a ≡ drop m b → (v : ℕ) → m ≤ v → row a v ≡ row b v
row_past m a b e v l =
    let q : m + (v - m) ≡ v = omega arith in
    ap (row a) (sym q) ∙ sym (get_or-drop m a (v - m) bare) ∙ ap (λ xs. get_or xs (v - m) bare) e ∙ get_or-drop m b (v - m) bare ∙ ap (row b) q

-- the vertices as `reset` leaves them
module _ (m : ℕ) (old new : List Vertex) (h : (v : ℕ) → v < m → row new v ≡ fresh (row old v)) (rest : drop m new ≡ drop m old) where
  kept_field : (f : Vertex → ℕ) → ((x : Vertex) → f (fresh x) ≡ f x) → (v : ℕ) → f (row new v) ≡ f (row old v)
  kept_field f k v = elim (cases_lt v m) [
    | inl l ↦ ap f (h v l) ∙ k (row old v)
    | inr l ↦ ap f (row_past m new old rest v l)
  ]

  pub begun_reset : Begun m old new
  begun_reset = record {
    first = kept_field (λ x. x.first) (λ x. refl);
    degree = kept_field (λ x. x.degree) (λ x. refl);
    value = λ v l. ap (λ (x : Vertex). x.value) (h v l);
    rest = rest;
  }

  pub none_placed : (v : ℕ) → v < m → (row new v).place ≡ Unseen
  none_placed v l = ap (λ (x : Vertex). x.place) (h v l)

pub begun_on : (m : ℕ) (a b d : List Vertex) → Begun m a b → Replaced m b d → Begun m a d
begun_on m a b d h k = record {
  first = λ v. k.first v ∙ h.first v;
  degree = λ v. k.degree v ∙ h.degree v;
  value = λ v l. k.value v ∙ h.value v l;
  rest = k.rest ∙ h.rest;
}

-- vs are the first of the order, and the vertices and the heap go with it
pub record Arranged (es : List Triple) (r : ℕ) (vs : List ℕ) (vertices : List Vertex) (hs : List Waiting) : Type 0 where
  pub follows : (i : ℕ) → i < length vs → Next es r (take i vs) (get_or vs i 0)
  pub lined : Lined (2 * r) vs
  pub queued : Queued (2 * r) (degree es) vs (joined es vs) vertices hs

pub arranged_none : (es : List Triple) (r : ℕ) (vertices : List Vertex) → ((v : ℕ) → v < 2 * r → (row vertices v).place ≡ Unseen) → Arranged es r [] vertices []
arranged_none es r vertices h = record {
  follows = λ i l. absurd (omega arith);
  lined = record { low = tt; apart = λ s. omega arith };
  queued = record {
    stands = λ u l. subst (Stands [] (joined es []) u) (sym (h u l)) (refl, joined_none es u);
    once = λ u l. sym (ap waiting (h u l));
    known = tt;
  };
}

module _ (es : List Triple) (r : ℕ) (vs : List ℕ) (v : ℕ) where
  follows_push : ((i : ℕ) → i < length vs → Next es r (take i vs) (get_or vs i 0)) → Next es r vs v → (i : ℕ) → i < length (vs ++ v ∷ []) → Next es r (take i (vs ++ v ∷ [])) (get_or (vs ++ v ∷ []) i 0)
  follows_push h n i l = elim (cases_eq i (length vs)) [
    | inl e ↦ subst (λ ws. Next es r ws (get_or (vs ++ v ∷ []) i 0)) (sym (take_at vs (v ∷ []) i (sym e))) (subst (Next es r vs) (sym (get_or_push vs v 0 i (sym e))) n)
    | inr e ↦
        let a : i < length vs = omega (arith, length_push vs v) in
        subst (λ ws. Next es r ws (get_or (vs ++ v ∷ []) i 0)) (sym (take-append-le i vs (v ∷ []) (omega arith))) (subst (Next es r (take i vs)) (sym (get_or_append_left vs (v ∷ []) 0 i a)) (h i a))
  ]

-- one turn
module _ (es : List Triple) (r : ℕ) (edges : List Edge) (ordered : List ℕ) (k v : ℕ) (vertices vertices1 : List Vertex) (hs hs1 : List Waiting)
    (lk : k < length ordered) (lv : 2 * r ≤ length vertices) (low : v < 2 * r) (a : Arranged es r (take k ordered) vertices hs) (ch : Chosen es r (take k ordered) hs hs1 (Some v))
    (e1 : vertices1 ≡ set vertices v (at_place (At k) (row vertices v))) where
  abbrev vs : List ℕ
  vs = take k ordered

  pub put_queued : Queued (2 * r) (degree es) (take k ordered ++ v ∷ []) (joined es (take k ordered)) vertices1 hs1
  put_queued = placed (2 * r) (degree es) vs (joined es vs) vertices hs hs1 v k a.queued ch.1 low lv (sym (length-take-le k ordered (omega arith))) vertices1 e1

  pub arranged_more : (vertices2 : List Vertex) (hs2 : List Waiting) → Queued (2 * r) (degree es) (take k ordered ++ v ∷ []) (joined es (take k ordered ++ v ∷ [])) vertices2 hs2 → Arranged es r (take (k + 1) (set ordered k v)) vertices2 hs2
  arranged_more vertices2 hs2 q =
      subst (λ ws. Arranged es r ws vertices2 hs2) (sym (take_more_set ordered k v lk))
      (record { follows = follows_push es r vs v a.follows ch.0; lined = lined_push (2 * r) vs v a.lined (next_waits es r vs v ch.0).0 low; queued = q })

pub put_replaced : (m k v : ℕ) (vertices vertices1 : List Vertex) → v < m → m ≤ length vertices → vertices1 ≡ set vertices v (at_place (At k) (row vertices v)) → Replaced m vertices vertices1
put_replaced m k v vertices vertices1 l lv e = subst (Replaced m vertices) (sym e) (replaced_one (At k) vertices v m refl l lv)

-- the end
module _ (es : List Triple) (r : ℕ) (edges : List Edge) (ordered : List ℕ) (k : ℕ) (vertices : List Vertex) (hs : List Waiting)
    (g : Graph es r edges vertices) (lk : k ≤ length ordered) (a : Arranged es r (take k ordered) vertices hs) where
  pub all_taken : 2 * r ≤ k → k ≤ 2 * r → (u : ℕ) → u < 2 * r → 0 < degree es u → among u (take k ordered) ≡ true
  all_taken x y u l d = among_times u (take k ordered) (omega (arith, each_once (2 * r) (take k ordered) (length-take-le k ordered lk ∙ omega arith) a.lined.low a.lined.apart u l))

  module _ (full : (u : ℕ) → u < 2 * r → 0 < degree es u → among u (take k ordered) ≡ true) where
    is_order : take k ordered ≡ order es r
    is_order = (one_order es r (take k ordered)).0 (record { follows = a.follows; complete = full })

    place_of : (v : ℕ) → v < 2 * r → (p : Place) → Stands (take k ordered) (joined es (take k ordered)) v p → Placed (take k ordered) v p
    place_of v l Unseen s = s.0
    place_of v l Waits s = both_ways (among v (take k ordered)) s.0 (full v l (joined_degree es (take k ordered) v s.1))
    place_of v l (At j) s = s

    pub in_order : OrderedGraph es r edges vertices ordered k
    in_order = record {
      graph = g;
      counted = sym (length-take-le k ordered lk) ∙ ap length is_order;
      listed = is_order;
      placed = λ v l. subst (λ ws. Placed ws v (row vertices v).place) is_order (place_of v l (row vertices v).place (a.queued.stands v l));
    }

-- an order is that of the edges which are read
pub ordered_whole : (es : List Triple) (r : ℕ) (edges : List Edge) (n : ℕ) (vertices : List Vertex) (ordered : List ℕ) (k : ℕ) → length es ≤ n → OrderedGraph es r (take n edges) vertices ordered k → OrderedGraph es r edges vertices ordered k
ordered_whole es r edges n vertices ordered k l o = record { graph = graph_whole es r edges vertices n l o.graph; counted = o.counted; listed = o.listed; placed = o.placed }
