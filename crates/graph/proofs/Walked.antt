-- What a walk along a chain meets.
use Rattle.std.proofs.Common.{◌≡◌, ℕ, zero, suc, ◌+◌, ◌*◌, ◌<◌, ◌≤◌, Bool, true, cond, eqb, ltb, List, [], ◌∷◌, length, get_or, take, sym, refl, ap, ◌∙◌, subst, inl, inr, add-one, arith}
use Rattle.std.proofs.lemmas.Bool.{cases_eq, cases_lt, cases_Bool, ne_eqb, eq-eqb, eqb-true, lt-ltb, le-ltb, cond-true, cond-false}
use Rattle.std.proofs.lemmas.List.{get_or-take, length-take-le}
use Rattle.std.proofs.ByRecursion.{All-get_or}
use Rattle.hashing.specs.Triples.{Triple}
use Rattle.graph.specs.declared.rows.Edge.{Edge}
use Rattle.graph.specs.declared.rows.Vertex.{Vertex}
use Rattle.graph.specs.Chains.{nil, Halves, latest, at_vertex, same1, same2, Linked, Edges, Graph, blank, link, row}
use Rattle.graph.specs.Walks.{onward, walk_below, walk, rows_where}
use Rattle.graph.proofs.Latest.{latest_same, latest_le, touches_low, touches_high}

module _ (low : Bool) (edges : List Edge) where
  -- a link to no edge below k
  pub walk_ends : (k at : ℕ) → (0 < at → at ≤ k → ⊥) → walk_below low edges k at ≡ []
  walk_ends zero at h = refl
  walk_ends (suc k) at h =
      cond-false (eqb at (suc k)) _ _ (ne_eqb at (suc k) (λ e. h (omega arith) (omega arith))) ∙
      walk_ends k at (λ a b. h a (omega arith))

  -- a link to the edge j below k
  pub walk_meets : (k j at : ℕ) → j < k → at ≡ suc j → walk_below low edges k at ≡ (j, link edges j) ∷ walk_below low edges j (onward low (link edges j))
  walk_meets zero j at l e = absurd (omega arith)
  walk_meets (suc k) j at l e = elim (cases_eq j k) [
    | inl q ↦ cond-true (eqb at (suc k)) _ _ (eq-eqb at (suc k) (e ∙ ap suc q)) ∙ ap (λ i. (i, link edges i) ∷ walk_below low edges i (onward low (link edges i))) (sym q)
    | inr q ↦ cond-false (eqb at (suc k)) _ _ (ne_eqb at (suc k) (λ z. omega arith)) ∙ walk_meets k j at (omega arith) e
  ]

  -- edges past the first k do not matter
  pub walk_taken : (i k at : ℕ) → k ≤ i → walk_below low (take i edges) k at ≡ walk_below low edges k at
  walk_taken i zero at l = refl
  walk_taken i (suc k) at l =
      let e : link (take i edges) k ≡ link edges k = get_or-take i edges k blank (omega arith) in
      λ t. cond (eqb at (suc k)) ((k, e t) ∷ (ap (λ x. walk_below low (take i edges) k (onward low x)) e ∙ walk_taken i k (onward low (link edges k)) (omega arith)) t) (walk_taken i k at (omega arith) t)

  -- where each edge that passes leads to the last before it that passes
  pub walk_rows : (p : ℕ → Bool) (k : ℕ) → ((j : ℕ) → j < k → p j ≡ true → onward low (link edges j) ≡ latest p j) → walk_below low edges k (latest p k) ≡ rows_where p edges k
  walk_rows p zero h = refl
  walk_rows p (suc k) h = elim (cases_Bool (p k)) [
    | inl e ↦
        let is : latest p (suc k) ≡ suc k = cond-true (p k) (suc k) (latest p k) e in
        walk_meets (suc k) k (latest p (suc k)) (omega arith) is ∙
        ap (λ at. (k, link edges k) ∷ walk_below low edges k at) (h k (omega arith) e) ∙
        ap (λ xs. (k, link edges k) ∷ xs) (walk_rows p k (λ j l. h j (omega arith))) ∙
        sym (cond-true (p k) _ _ e)
    | inr e ↦
        let is : latest p (suc k) ≡ latest p k = cond-false (p k) (suc k) (latest p k) e in
        ap (walk_below low edges (suc k)) is ∙
        cond-false (eqb (latest p k) (suc k)) _ _ (ne_eqb (latest p k) (suc k) (λ z. omega (arith, latest_le p k))) ∙
        walk_rows p k (λ j l. h j (omega arith)) ∙
        sym (cond-false (p k) _ _ e)
  ]

-- the edges before i with its first vertex
module _ (es : List Triple) (edges : List Edge) (h : Edges es edges) (i : ℕ) (l : i < length es) where
  pub walk_same : walk_below true edges i (link edges i).next1 ≡ rows_where (same1 es i) edges i
  walk_same = ap (walk_below true edges i) (h i l).next1 ∙ walk_rows true edges (same1 es i) i
      (λ j m p. (h j (omega arith)).next1 ∙ latest_same (same1 es j) (same1 es i) j
      (λ k n. ap (λ x. eqb x (get_or es k nil).h1) (sym (eqb-true (get_or es i nil).h1 (get_or es j nil).h1 p))))

-- the edges of a vertex
module _ (es : List Triple) (r : ℕ) (edges : List Edge) (vertices : List Vertex) (g : Graph es r edges vertices) (v : ℕ) where
  halves_at : (i : ℕ) → i < length es → Halves r (get_or es i nil)
  halves_at i l = All-get_or (Halves r) es i nil l g.halves

  low_leads : v < r → (j : ℕ) → j < length es → at_vertex es v j ≡ true → (link edges j).next1 ≡ latest (at_vertex es v) j
  low_leads l j m p =
      let is : v ≡ (get_or es j nil).h1 = eqb-true v (get_or es j nil).h1 (sym (touches_low r v (get_or es j nil) (halves_at j m) l) ∙ p) in
      (g.edge j m).next1 ∙ latest_same (same1 es j) (at_vertex es v) j
      (λ i n. ap (λ x. eqb x (get_or es i nil).h1) (sym is) ∙ sym (touches_low r v (get_or es i nil) (halves_at i (omega arith)) l))

  high_leads : r ≤ v → (j : ℕ) → j < length es → at_vertex es v j ≡ true → (link edges j).next2 ≡ latest (at_vertex es v) j
  high_leads l j m p =
      let is : v ≡ (get_or es j nil).h2 = eqb-true v (get_or es j nil).h2 (sym (touches_high r v (get_or es j nil) (halves_at j m) l) ∙ p) in
      (g.edge j m).next2 ∙ latest_same (same2 es j) (at_vertex es v) j
      (λ i n. ap (λ x. eqb x (get_or es i nil).h2) (sym is) ∙ sym (touches_high r v (get_or es i nil) (halves_at i (omega arith)) l))

  leads : (j : ℕ) → j < length es → at_vertex es v j ≡ true → onward (ltb v r) (link edges j) ≡ latest (at_vertex es v) j
  leads j m p = elim (cases_lt v r) [
    | inl l ↦ cond-true (ltb v r) _ _ (lt-ltb v r l) ∙ low_leads l j m p
    | inr l ↦ cond-false (ltb v r) _ _ (le-ltb v r l) ∙ high_leads l j m p
  ]

  pub walk_vertex : (at : ℕ) (low : Bool) → length es ≡ length edges → v < 2 * r → at ≡ (row vertices v).first → low ≡ ltb v r → walk low edges at ≡ rows_where (at_vertex es v) edges (length es)
  walk_vertex at low n l ea el =
      ap (λ b. walk_below b edges (length edges) at) el ∙ ap (λ k. walk_below (ltb v r) edges k at) (sym n) ∙
      ap (walk_below (ltb v r) edges (length es)) (ea ∙ (g.vertex v l).first) ∙
      walk_rows (ltb v r) edges (at_vertex es v) (length es) leads

-- one step of a walk
module _ (low : Bool) (edges : List Edge) (at row next : ℕ) (e : Edge) (is : at ≡ row + 1) (l : row < length edges) (el : e ≡ link edges row) (en : next ≡ onward low e) where
  pub walk_steps : walk low edges at ≡ (row, e) ∷ walk low (take row edges) next
  walk_steps =
      walk_meets low edges (length edges) row at l (is ∙ add-one row) ∙
      ap (λ x. (row, x) ∷ walk_below low edges row (onward low x)) (sym el) ∙
      ap (λ y. (row, e) ∷ walk_below low edges row y) (sym en) ∙
      ap (λ xs. (row, e) ∷ xs) (sym (walk_taken low edges row row next (omega arith))) ∙
      ap (λ k. (row, e) ∷ walk_below low (take row edges) k next) (sym (length-take-le row edges (omega arith)))

-- the rows that pass are those that are listed
module _ (p : ℕ → Bool) (edges : List Edge) where
  -- what stands at the place k
  abbrev StandsAt : ℕ → List (ℕ × Edge) → ℕ → Type 0
  StandsAt b xs k = (j : ℕ) × (j < b) × (p j ≡ true) × ((d : ℕ × Edge) → get_or xs k d ≡ (j, link edges j))

  -- where the row j stands
  abbrev StandsIn : ℕ → List (ℕ × Edge) → Type 0
  StandsIn j xs = (k : ℕ) × (k < length xs) × ((d : ℕ × Edge) → get_or xs k d ≡ (j, link edges j))

  at_front : (b : ℕ) (xs : List (ℕ × Edge)) → p b ≡ true → ((k : ℕ) → k < length xs → StandsAt b xs k) → (k : ℕ) → k < suc (length xs) → StandsAt (suc b) ((b, link edges b) ∷ xs) k
  at_front b xs e h zero l = (b, omega arith, e, λ d. refl)
  at_front b xs e h (suc k) l = let q = h k (omega arith) in (q.0, omega (arith, q.1), q.2, q.3)

  pub listed_passes : (b k : ℕ) → k < length (rows_where p edges b) → StandsAt b (rows_where p edges b) k
  listed_passes zero k l = absurd (omega arith)
  listed_passes (suc b) k l = elim (cases_Bool (p b)) [
    | inl e ↦
        let is : rows_where p edges (suc b) ≡ (b, link edges b) ∷ rows_where p edges b = cond-true (p b) _ _ e in
        subst (λ xs. StandsAt (suc b) xs k) (sym is) (at_front b (rows_where p edges b) e (λ i m. listed_passes b i m) k (omega (arith, ap length is)))
    | inr e ↦
        let is : rows_where p edges (suc b) ≡ rows_where p edges b = cond-false (p b) _ _ e in
        let q = listed_passes b k (omega (arith, ap length is)) in
        subst (λ xs. StandsAt (suc b) xs k) (sym is) (q.0, omega (arith, q.1), q.2, q.3)
  ]

  pub passing_listed : (b j : ℕ) → j < b → p j ≡ true → StandsIn j (rows_where p edges b)
  passing_listed zero j l h = absurd (omega arith)
  passing_listed (suc b) j l h = elim (cases_eq j b) [
    | inl q ↦ subst (StandsIn j) (sym (cond-true (p b) _ _ (ap p (sym q) ∙ h))) (0, omega arith, λ d. ap (λ i. (i, link edges i)) (sym q))
    | inr q ↦
        let r = passing_listed b j (omega arith) h in
        elim (cases_Bool (p b)) [
          | inl e ↦ subst (StandsIn j) (sym (cond-true (p b) _ _ e)) (suc r.0, omega (arith, r.1), r.2)
          | inr e ↦ subst (StandsIn j) (sym (cond-false (p b) _ _ e)) r
        ]
  ]

-- a graph is that of the edges which are read
edges_part : (es : List Triple) (edges : List Edge) (k : ℕ) → length es ≤ k → (i : ℕ) → i < length es → link (take k edges) i ≡ link edges i
edges_part es edges k l i m = get_or-take k edges i blank (omega arith)

pub graph_part : (es : List Triple) (r : ℕ) (edges : List Edge) (vertices : List Vertex) (k : ℕ) → length es ≤ k → Graph es r edges vertices → Graph es r (take k edges) vertices
graph_part es r edges vertices k l g = record { halves = g.halves; edge = λ i m. subst (Linked es i) (sym (edges_part es edges k l i m)) (g.edge i m); vertex = g.vertex }

pub graph_whole : (es : List Triple) (r : ℕ) (edges : List Edge) (vertices : List Vertex) (k : ℕ) → length es ≤ k → Graph es r (take k edges) vertices → Graph es r edges vertices
graph_whole es r edges vertices k l g = record { halves = g.halves; edge = λ i m. subst (Linked es i) (edges_part es edges k l i m) (g.edge i m); vertex = g.vertex }

-- a walk over k edges has at most k items, each a row below k
pub walk_few : (low : Bool) (edges : List Edge) (k at : ℕ) → length (walk_below low edges k at) ≤ k
walk_few low edges zero at = omega arith
walk_few low edges (suc k) at = elim (cases_Bool (eqb at (suc k))) [
  | inl e ↦ omega (arith, ap length (cond-true (eqb at (suc k)) ((k, link edges k) ∷ walk_below low edges k (onward low (link edges k))) (walk_below low edges k at) e), walk_few low edges k (onward low (link edges k)))
  | inr e ↦ omega (arith, ap length (cond-false (eqb at (suc k)) ((k, link edges k) ∷ walk_below low edges k (onward low (link edges k))) (walk_below low edges k at) e), walk_few low edges k at)
]

pub walk_rows_low : (low : Bool) (edges : List Edge) (k at i : ℕ) (d : ℕ × Edge) → i < length (walk_below low edges k at) → (get_or (walk_below low edges k at) i d).0 < k
walk_rows_low low edges zero at i d l = absurd (omega arith)
walk_rows_low low edges (suc k) at i d l = elim (cases_Bool (eqb at (suc k))) [
  | inl e ↦
      let is = cond-true (eqb at (suc k)) ((k, link edges k) ∷ walk_below low edges k (onward low (link edges k))) (walk_below low edges k at) e in
      subst (λ xs. (get_or xs i d).0 < suc k) (sym is) (front i (λ j m. walk_rows_low low edges k (onward low (link edges k)) j d m) (omega (arith, ap length is)))
  | inr e ↦
      let is = cond-false (eqb at (suc k)) ((k, link edges k) ∷ walk_below low edges k (onward low (link edges k))) (walk_below low edges k at) e in
      subst (λ xs. (get_or xs i d).0 < suc k) (sym is) (omega (arith, walk_rows_low low edges k at i d (omega (arith, ap length is))))
]
  where
    front : (i : ℕ) → ((j : ℕ) → j < length (walk_below low edges k (onward low (link edges k))) → (get_or (walk_below low edges k (onward low (link edges k))) j d).0 < k) → i < suc (length (walk_below low edges k (onward low (link edges k)))) → (get_or ((k, link edges k) ∷ walk_below low edges k (onward low (link edges k))) i d).0 < suc k
    front zero h l = omega arith
    front (suc i) h l = omega (arith, h i (omega arith))
