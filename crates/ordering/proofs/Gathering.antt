-- A walk along the edges of a vertex meets its neighbours.
use Rattle.std.proofs.Common.{◌≡◌, ℕ, zero, suc, ◌*◌, ◌<◌, ◌≤◌, Bool, true, false, cond, ◌&&◌, ◌||◌, eqb, ltb, List, [], ◌∷◌, ◌++◌, length, get_or, take, sym, refl, ap, ap₂, ◌∙◌, inl, inr, add-one, arith}
use Rattle.std.specs.List.{list_any}
use Rattle.std.proofs.lemmas.Bool.{cases_lt, cases_Bool, eq-eqb, ne_eqb, eqb-true, eqb-false, or_parts, or_from, and_right, lt-ltb, le-ltb, cond-true, cond-false}
use Rattle.std.proofs.lemmas.List.{take_more, take_all}
use Rattle.std.proofs.lemmas.List.Folds.{list_any-append}
use Rattle.std.proofs.ByRecursion.{All-get_or}
use Rattle.orders.specs.declared.waiting.Waiting.{Waiting}
use Rattle.hashing.specs.Triples.{Triple}
use Rattle.runs.specs.Lists.{among}
use Rattle.runs.specs.Order.{touches, degree, joins, joined}
use Rattle.graph.specs.declared.rows.Edge.{Edge}
use Rattle.graph.specs.declared.rows.Vertex.{Vertex}
use Rattle.graph.specs.Chains.{nil, Halves, at_vertex, Graph, link, row}
use Rattle.graph.specs.Walks.{rows_where}
use Rattle.ordering.specs.Queue.{Queued, Weighed}
use Rattle.graph.proofs.Latest.{touches_low, touches_high}
use Rattle.graph.proofs.Walked.{listed_passes}
use Rattle.ordering.proofs.Queues.{requeued}

or_false : (x : Bool) → (x || false) ≡ x
or_false true = refl
or_false false = refl

assoc : (a b d : Bool) → (a || (b || d)) ≡ ((a || b) || d)
assoc true b d = refl
assoc false b d = refl

and_or : (a b d : Bool) → (a && (b || d)) ≡ ((a && b) || (a && d))
and_or true b d = refl
and_or false b d = refl

and_true : (a b : Bool) → b ≡ true → (a && b) ≡ a
and_true true b h = h
and_true false b h = refl

regroup : (x y z w g h : Bool) → (((x || y) || (z || w)) || (g || h)) ≡ (((x || z) || g) || ((y || w) || h))
regroup true y z w g h = refl
regroup false true true w g h = refl
regroup false true false w true h = refl
regroup false true false w false h = refl
regroup false false true w g h = refl
regroup false false false true true h = refl
regroup false false false true false h = refl
regroup false false false false true h = refl
regroup false false false false false h = refl

swap : (a b : Bool) → (a || b) ≡ (b || a)
swap true true = refl
swap true false = refl
swap false true = refl
swap false false = refl

-- one more that is met
meet_one : (a b d : Bool) → (d || (a || b)) ≡ (a || (b || (d || false)))
meet_one true true true = refl
meet_one true true false = refl
meet_one true false true = refl
meet_one true false false = refl
meet_one false true true = refl
meet_one false true false = refl
meet_one false false true = refl
meet_one false false false = refl

among_push : (vs : List ℕ) (v u : ℕ) → among u (vs ++ v ∷ []) ≡ (among u vs || among u (v ∷ []))
among_push [] v u = refl
among_push (x ∷ vs) v u = ap (λ b. eqb u x || b) (among_push vs v u) ∙ assoc (eqb u x) (among u vs) (among u (v ∷ []))

-- sharing an edge with one more vertex
joined_push : (es : List Triple) (vs : List ℕ) (v u : ℕ) → joined es (vs ++ v ∷ []) u ≡ (joined es vs u || joined es (v ∷ []) u)
joined_push [] vs v u = refl
joined_push (e ∷ es) vs v u =
    (λ k. ((eqb u e.h1 && among_push vs v e.h2 k) || (eqb u e.h2 && among_push vs v e.h1 k)) || joined_push es vs v u k) ∙
    (λ k. (and_or (eqb u e.h1) (among e.h2 vs) (among e.h2 (v ∷ [])) k || and_or (eqb u e.h2) (among e.h1 vs) (among e.h1 (v ∷ [])) k) || (joined es vs u || joined es (v ∷ []) u)) ∙
    regroup (eqb u e.h1 && among e.h2 vs) (eqb u e.h1 && among e.h2 (v ∷ [])) (eqb u e.h2 && among e.h1 vs) (eqb u e.h2 && among e.h1 (v ∷ [])) (joined es vs u) (joined es (v ∷ []) u)

not_in : (v x : ℕ) → (x ≡ v → ⊥) → among x (v ∷ []) ≡ false
not_in v x h = or_from (eqb x v) false (ne_eqb x v h) refl

is_in : (v x : ℕ) → x ≡ v → among x (v ∷ []) ≡ true
is_in v x h = ap (λ b. b || false) (eq-eqb x v h)

-- an edge that is not at v, and one that is, by its first or by its second vertex
pub joins_miss : (e : Triple) (v u : ℕ) → touches v e ≡ false → joins (v ∷ []) u e ≡ false
joins_miss e v u h =
    let p = or_parts (eqb v e.h1) (eqb v e.h2) h in
    or_from (eqb u e.h1 && among e.h2 (v ∷ [])) (eqb u e.h2 && among e.h1 (v ∷ []))
    (and_right (eqb u e.h1) (among e.h2 (v ∷ [])) (not_in v e.h2 (λ q. eqb-false v e.h2 p.1 (sym q))))
    (and_right (eqb u e.h2) (among e.h1 (v ∷ [])) (not_in v e.h1 (λ q. eqb-false v e.h1 p.0 (sym q))))

joins_low : (e : Triple) (v u : ℕ) → e.h1 ≡ v → (e.h2 ≡ v → ⊥) → joins (v ∷ []) u e ≡ eqb u e.h2
joins_low e v u a b = λ k. and_right (eqb u e.h1) (among e.h2 (v ∷ [])) (not_in v e.h2 b) k || and_true (eqb u e.h2) (among e.h1 (v ∷ [])) (is_in v e.h1 a) k

joins_high : (e : Triple) (v u : ℕ) → e.h2 ≡ v → (e.h1 ≡ v → ⊥) → joins (v ∷ []) u e ≡ eqb u e.h1
joins_high e v u a b =
    (λ k. and_true (eqb u e.h1) (among e.h2 (v ∷ [])) (is_in v e.h2 a) k || and_right (eqb u e.h2) (among e.h1 (v ∷ [])) (not_in v e.h1 b) k) ∙ or_false (eqb u e.h1)

joined_more : (es : List Triple) (e : Triple) (vs : List ℕ) (u : ℕ) → joined (es ++ e ∷ []) vs u ≡ (joined es vs u || joins vs u e)
joined_more [] e vs u = or_false (joins vs u e)
joined_more (x ∷ es) e vs u = ap (λ b. joins vs u x || b) (joined_more es e vs u) ∙ assoc (joins vs u x) (joined es vs u) (joins vs u e)

-- the vertex to which an edge of a walk leads
abbrev pub far_of : Bool → Edge → ℕ
far_of low e = cond low e.h2 e.h1

abbrev pub leads_to : Bool → ℕ → ℕ × Edge → Bool
leads_to low u p = eqb u (far_of low p.1)

-- those that share an edge with one of vs, or to which one of the edges leads that were met
abbrev pub seen_by : List Triple → List ℕ → Bool → List (ℕ × Edge) → ℕ → Bool
seen_by es vs low met u = joined es vs u || list_any (leads_to low u) met

module _ (es : List Triple) (r : ℕ) (edges : List Edge) (vertices : List Vertex) (g : Graph es r edges vertices) (v : ℕ) where
  module _ (j : ℕ) (m : j < length es) where
    abbrev t : Triple
    t = get_or es j nil

    h : Halves r t
    h = All-get_or (Halves r) es j nil m g.halves

    far_low : (v < r) → far_of (ltb v r) (link edges j) ≡ t.h2
    far_low l = cond-true (ltb v r) _ _ (lt-ltb v r l) ∙ (g.edge j m).h2

    far_high : (r ≤ v) → far_of (ltb v r) (link edges j) ≡ t.h1
    far_high l = cond-false (ltb v r) _ _ (le-ltb v r l) ∙ (g.edge j m).h1

    far_below : far_of (ltb v r) (link edges j) < 2 * r
    far_below = elim (cases_lt v r) [
      | inl l ↦ omega (arith, far_low l, h.below)
      | inr l ↦ omega (arith, far_high l, h.low)
    ]

    joins_far : at_vertex es v j ≡ true → (u : ℕ) → leads_to (ltb v r) u (j, link edges j) ≡ joins (v ∷ []) u t
    joins_far p u = elim (cases_lt v r) [
      | inl l ↦
          let is : v ≡ t.h1 = eqb-true v t.h1 (sym (touches_low r v t h l) ∙ p) in
          ap (eqb u) (far_low l) ∙ sym (joins_low t v u (sym is) (λ q. omega (arith, h.high)))
      | inr l ↦
          let is : v ≡ t.h2 = eqb-true v t.h2 (sym (touches_high r v t h l) ∙ p) in
          ap (eqb u) (far_high l) ∙ sym (joins_high t v u (sym is) (λ q. omega (arith, h.low)))
    ]

  -- the edges of v lead to those that share one with it
  walk_joined : (u k : ℕ) → k ≤ length es → list_any (leads_to (ltb v r) u) (rows_where (at_vertex es v) edges k) ≡ joined (take k es) (v ∷ []) u
  walk_joined u zero l = refl
  walk_joined u (suc k) l =
      let more : joined (take (suc k) es) (v ∷ []) u ≡ (joined (take k es) (v ∷ []) u || joins (v ∷ []) u (get_or es k nil)) =
      ap (λ i. joined (take i es) (v ∷ []) u) (sym (add-one k)) ∙ ap (λ xs. joined xs (v ∷ []) u) (take_more es k nil (omega arith)) ∙ joined_more (take k es) (get_or es k nil) (v ∷ []) u in
      let rest = walk_joined u k (omega arith) in
      elim (cases_Bool (at_vertex es v k)) [
        | inl e ↦
            ap (list_any (leads_to (ltb v r) u)) (cond-true (at_vertex es v k) _ _ e) ∙
            ap₂ (λ a b. a || b) (joins_far k (omega arith) e u) rest ∙ swap (joins (v ∷ []) u (get_or es k nil)) (joined (take k es) (v ∷ []) u) ∙ sym more
        | inr e ↦
            ap (list_any (leads_to (ltb v r) u)) (cond-false (at_vertex es v k) _ _ e) ∙ rest ∙
            sym (more ∙ ap (λ b. joined (take k es) (v ∷ []) u || b) (joins_miss (get_or es k nil) v u e) ∙ or_false (joined (take k es) (v ∷ []) u))
      ]

  abbrev all : List (ℕ × Edge)
  all = rows_where (at_vertex es v) edges (length es)

  module _ (vs : List ℕ) (vertices' : List Vertex) (hs : List Waiting) where
    -- the edge that is met now leads to u
    pub gather_goes : (met : List (ℕ × Edge)) (x : ℕ × Edge) (u : ℕ) → u ≡ far_of (ltb v r) x.1 →
        Queued (2 * r) (degree es) (vs ++ v ∷ []) (λ y. eqb y u || seen_by es vs (ltb v r) met y) vertices' hs → Queued (2 * r) (degree es) (vs ++ v ∷ []) (seen_by es vs (ltb v r) (met ++ x ∷ [])) vertices' hs
    gather_goes met x u e q = requeued (2 * r) (degree es) (vs ++ v ∷ []) vertices' hs (λ y. eqb y u || seen_by es vs (ltb v r) met y) (seen_by es vs (ltb v r) (met ++ x ∷ []))
        (λ y. ap (λ z. eqb y z || seen_by es vs (ltb v r) met y) e ∙ meet_one (joined es vs y) (list_any (leads_to (ltb v r) y) met) (leads_to (ltb v r) y x) ∙
        ap (λ b. joined es vs y || b) (sym (list_any-append (leads_to (ltb v r) y) met (x ∷ [])))) q

    pub gather_ends : (met : List (ℕ × Edge)) → met ≡ all → Queued (2 * r) (degree es) (vs ++ v ∷ []) (seen_by es vs (ltb v r) met) vertices' hs → Queued (2 * r) (degree es) (vs ++ v ∷ []) (joined es (vs ++ v ∷ [])) vertices' hs
    gather_ends met e q = requeued (2 * r) (degree es) (vs ++ v ∷ []) vertices' hs (seen_by es vs (ltb v r) met) (joined es (vs ++ v ∷ []))
        (λ u. ap (λ xs. seen_by es vs (ltb v r) xs u) e ∙ ap (λ b. joined es vs u || b) (walk_joined u (length es) (omega arith) ∙ ap (λ xs. joined xs (v ∷ []) u) (take_all (length es) es (omega arith))) ∙ sym (joined_push es vs v u)) q

  -- each edge of v leads to a vertex
  pub met_below : (k : ℕ) (x : ℕ × Edge) → k < length all → x ≡ get_or all k x → far_of (ltb v r) x.1 < 2 * r
  met_below k x l e =
      let q = listed_passes (at_vertex es v) edges (length es) k l in
      let is : far_of (ltb v r) x.1 ≡ far_of (ltb v r) (link edges q.0) = ap (λ (p : ℕ × Edge). far_of (ltb v r) p.1) (e ∙ q.3 x) in
      omega (arith, is, far_below q.0 q.1)

-- places are no part of the graph
pub graph_kept : (es : List Triple) (r : ℕ) (edges : List Edge) (vertices vertices' : List Vertex) → ((v : ℕ) → (row vertices' v).first ≡ (row vertices v).first) → ((v : ℕ) → (row vertices' v).degree ≡ (row vertices v).degree) → Graph es r edges vertices → Graph es r edges vertices'
graph_kept es r edges vertices vertices' a b g = record {
  halves = g.halves;
  edge = g.edge;
  vertex = λ v l. record { first = a v ∙ (g.vertex v l).first; degree = b v ∙ (g.vertex v l).degree };
}

pub graph_weighs : (es : List Triple) (r : ℕ) (edges : List Edge) (vertices : List Vertex) → Graph es r edges vertices → Weighed (2 * r) (degree es) vertices
graph_weighs es r edges vertices g u l = (g.vertex u l).degree
