-- One more edge.
use Rattle.std.proofs.Common.{◌≡◌, ℕ, ◌+◌, ◌*◌, ◌<◌, ◌≤◌, true, false, eqb, List, [], ◌∷◌, ◌++◌, length, get_or, drop, set, sym, refl, ap, ◌∙◌, subst, inl, inr, add-one, arith}
use Rattle.std.proofs.lemmas.Bool.{cases_eq, ne_eqb, eq-eqb, or_left, or_right, or_from, cond-true, cond-false}
use Rattle.std.proofs.lemmas.List.{length_push, get_or_push, get_or-set_same, get_or-set_other, length-set, drop-set-lt}
use Rattle.std.proofs.ByRecursion.{All-push}
use Rattle.hashing.specs.Triples.{Triple}
use Rattle.runs.specs.Order.{touches}
use Rattle.runs.proofs.Times.{one_true, one_false}
use Rattle.graph.specs.declared.rows.Edge.{Edge}
use Rattle.graph.specs.declared.rows.Vertex.{Vertex}
use Rattle.graph.specs.Chains.{nil, Halves, Linked, Headed, Graph, blank, bare, link, row, headed, once_at, twice_at, edge_at}
use Rattle.graph.proofs.Latest.{old_at, head_more, link1_more, link2_more, link1_new, link2_new, degree_push, degree_le}

touches_first : (t : Triple) → touches t.h1 t ≡ true
touches_first t = or_left (eqb t.h1 t.h1) (eqb t.h1 t.h2) (eq-eqb t.h1 t.h1 refl)

touches_second : (t : Triple) → touches t.h2 t ≡ true
touches_second t = or_right (eqb t.h2 t.h1) (eqb t.h2 t.h2) (eq-eqb t.h2 t.h2 refl)

module _ (es : List Triple) (t : Triple) (r : ℕ) (edges : List Edge) (vertices : List Vertex) (ht : Halves r t) (g : Graph es r edges vertices)
    (lv : 2 * r ≤ length vertices) (le : length es < length edges) where
  abbrev n : ℕ
  n = length es

  abbrev once : List Vertex
  once = once_at n t vertices

  abbrev twice : List Vertex
  twice = twice_at n t vertices

  abbrev new_edge : Edge
  new_edge = edge_at n t vertices

  once_second : row once t.h2 ≡ row vertices t.h2
  once_second = get_or-set_other vertices t.h1 t.h2 _ bare (λ e. omega (arith, ht.low, ht.high))

  twice_first : row twice t.h1 ≡ headed (n + 1) (row vertices t.h1)
  twice_first = get_or-set_other once t.h2 t.h1 _ bare (λ e. omega (arith, ht.low, ht.high)) ∙ get_or-set_same vertices t.h1 _ bare (omega (arith, ht.low))

  twice_second : row twice t.h2 ≡ headed (n + 1) (row vertices t.h2)
  twice_second = get_or-set_same once t.h2 _ bare (omega (arith, ht.below, length-set vertices t.h1 (headed (n + 1) (row vertices t.h1)))) ∙ ap (headed (n + 1)) once_second

  twice_other : (v : ℕ) → (v ≡ t.h1 → ⊥) → (v ≡ t.h2 → ⊥) → row twice v ≡ row vertices v
  twice_other v a b = get_or-set_other once t.h2 v _ bare b ∙ get_or-set_other vertices t.h1 v _ bare a

  meets : (v : ℕ) → v < 2 * r → touches v t ≡ true → row twice v ≡ headed (n + 1) (row vertices v) → Headed (es ++ t ∷ []) v (row twice v)
  meets v l p q = record {
    first = ap (λ (x : Vertex). x.first) q ∙ add-one n ∙ sym (head_more es t v ∙ cond-true (touches v t) _ _ p);
    degree = ap (λ (x : Vertex). x.degree) q ∙ omega (arith, degree_push es t v, one_true (touches v t) p, (g.vertex v l).degree);
  }

  misses : (v : ℕ) → v < 2 * r → touches v t ≡ false → row twice v ≡ row vertices v → Headed (es ++ t ∷ []) v (row twice v)
  misses v l p q = record {
    first = ap (λ (x : Vertex). x.first) q ∙ (g.vertex v l).first ∙ sym (head_more es t v ∙ cond-false (touches v t) _ _ p);
    degree = ap (λ (x : Vertex). x.degree) q ∙ omega (arith, degree_push es t v, one_false (touches v t) p, (g.vertex v l).degree);
  }

  at_each : (v : ℕ) → v < 2 * r → Headed (es ++ t ∷ []) v (row twice v)
  at_each v l = elim (cases_eq v t.h1) [
    | inl e ↦ subst (λ u. Headed (es ++ t ∷ []) u (row twice u)) (sym e) (meets t.h1 (omega (arith, ht.low)) (touches_first t) twice_first)
    | inr e ↦ elim (cases_eq v t.h2) [
      | inl f ↦ subst (λ u. Headed (es ++ t ∷ []) u (row twice u)) (sym f) (meets t.h2 ht.below (touches_second t) twice_second)
      | inr f ↦ misses v l (or_from (eqb v t.h1) (eqb v t.h2) (ne_eqb v t.h1 e) (ne_eqb v t.h2 f)) (twice_other v e f)
    ]
  ]

  new_linked : Linked (es ++ t ∷ []) n new_edge
  new_linked =
      let e : get_or (es ++ t ∷ []) n nil ≡ t = get_or_push es t nil n refl in
      record {
        h0 = ap (λ (x : Triple). x.h0) (sym e);
        h1 = ap (λ (x : Triple). x.h1) (sym e);
        h2 = ap (λ (x : Triple). x.h2) (sym e);
        next1 = (g.vertex t.h1 (omega (arith, ht.low))).first ∙ link1_new es t r g.halves ht;
        next2 = ap (λ (x : Vertex). x.first) once_second ∙ (g.vertex t.h2 ht.below).first ∙ link2_new es t r g.halves ht;
      }

  still_linked : (i : ℕ) → i < n → Linked (es ++ t ∷ []) i (link edges i)
  still_linked i l =
      let h = g.edge i l in
      let e = old_at es t i l in
      record {
        h0 = h.h0 ∙ ap (λ (x : Triple). x.h0) (sym e);
        h1 = h.h1 ∙ ap (λ (x : Triple). x.h1) (sym e);
        h2 = h.h2 ∙ ap (λ (x : Triple). x.h2) (sym e);
        next1 = h.next1 ∙ sym (link1_more es t i l);
        next2 = h.next2 ∙ sym (link2_more es t i l);
      }

  pub one_more : Graph (es ++ t ∷ []) r (set edges n new_edge) twice
  one_more = record {
    halves = All-push (Halves r) es t g.halves ht;
    edge = λ i l. elim (cases_eq i n) [
      | inl e ↦ subst (λ j. Linked (es ++ t ∷ []) j (link (set edges n new_edge) j)) (sym e) (subst (Linked (es ++ t ∷ []) n) (sym (get_or-set_same edges n new_edge blank le)) new_linked)
      | inr e ↦ subst (Linked (es ++ t ∷ []) i) (sym (get_or-set_other edges n i new_edge blank e)) (still_linked i (omega (arith, length_push es t)))
    ];
    vertex = at_each;
  }

-- an edge below `count` leaves the edges past it as they are
pub past_edge : (count i : ℕ) (edges edges' : List Edge) (x : Edge) → edges' ≡ set edges i x → i < count → drop count edges' ≡ drop count edges
past_edge count i edges edges' x e l = ap (drop count) e ∙ drop-set-lt count edges i x l

-- what an edge more needs and leaves, where i edges are there
module _ (es : List Triple) (t : Triple) (i r : ℕ) (edges : List Edge) (vs : List Vertex) (ht : Halves r t) (long : length es ≡ i) (g : Graph es r edges vs) where
  pub degree_first : (row vs t.h1).degree ≤ i
  degree_first = omega (arith, (g.vertex t.h1 (omega (arith, ht.low))).degree, degree_le es t.h1)

  pub degree_second : (row vs t.h2).degree ≤ i
  degree_second = omega (arith, (g.vertex t.h2 ht.below).degree, degree_le es t.h2)

  pub attached : 2 * r ≤ length vs → i < length edges → (edges' : List Edge) (vs' : List Vertex) → edges' ≡ set edges i (edge_at i t vs) → vs' ≡ twice_at i t vs → Graph (es ++ t ∷ []) r edges' vs'
  attached lv le edges' vs' e e' =
      subst (Graph (es ++ t ∷ []) r edges') (sym e')
      (subst (λ xs. Graph (es ++ t ∷ []) r xs (twice_at i t vs)) (sym e)
      (subst (λ k. Graph (es ++ t ∷ []) r (set edges k (edge_at k t vs)) (twice_at k t vs)) long (one_more es t r edges vs ht g lv (omega arith))))

  pub past_both : (vs' : List Vertex) → vs' ≡ twice_at i t vs → drop (2 * r) vs' ≡ drop (2 * r) vs
  past_both vs' e =
      ap (drop (2 * r)) e ∙ drop-set-lt (2 * r) (once_at i t vs) t.h2 _ ht.below ∙ drop-set-lt (2 * r) vs t.h1 _ (omega (arith, ht.low))
