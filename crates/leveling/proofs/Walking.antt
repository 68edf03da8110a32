-- A walk along the chain of a vertex collects the names of its level.
use Rattle.std.proofs.Common.{◌≡◌, ℕ, zero, suc, ◌+◌, ◌*◌, ◌%◌, ◌<◌, ◌≤◌, Bool, true, false, cond, ◌&&◌, ◌||◌, eqb, ltb, List, [], ◌∷◌, ◌++◌, length, get_or, take, set, Some, None, Option, sym, refl, ap, ◌∙◌, ap₂, subst, inl, inr, arith}
use Rattle.std.specs.List.{filter_map, cons_option}
use Rattle.std.proofs.lemmas.Bool.{cases_lt, cases_Bool, ne_eqb, or_parts, lt-ltb, le-ltb, cond-true, cond-false}
use Rattle.std.proofs.lemmas.List.{append-nil, take_more_set, get_or-take, length-take-le}
use Rattle.std.proofs.ByRecursion.{All-get_or}
use Rattle.hashing.specs.Triples.{Triple}
use Rattle.runs.specs.Lists.{among}
use Rattle.runs.specs.Order.{touches, joins, order}
use Rattle.runs.specs.Fitting.{far_end, offset}
use Rattle.runs.proofs.Ordering.{order_lined}
use Rattle.graph.specs.declared.rows.Edge.{Edge}
use Rattle.graph.specs.declared.rows.Vertex.{Vertex}
use Rattle.graph.specs.Chains.{nil, bare, Halves, at_vertex, Linked, Graph, link, row}
use Rattle.graph.specs.Walks.{rows_where}
use Rattle.graph.proofs.Latest.{touches_low, touches_high}
use Rattle.graph.proofs.Walked.{listed_passes}
use Rattle.ordering.specs.Queue.{Placed}
use Rattle.fitting.specs.declared.level.LevelName.{LevelName}
use Rattle.leveling.specs.Level.{comes_before, Valued, in_level, level_name, chain_names}
use Rattle.leveling.proofs.Earlier.{earlier_is}

or_false : (x : Bool) → (x || false) ≡ x
or_false true = refl
or_false false = refl

-- an edge that is not at v does not join it to anything
joins_miss : (vs : List ℕ) (v : ℕ) (e : Triple) → touches v e ≡ false → joins vs v e ≡ false
joins_miss vs v e h =
    let p = or_parts (eqb v e.h1) (eqb v e.h2) h in
    ap₂ (λ a b. (a && among e.h2 vs) || (b && among e.h1 vs)) p.0 p.1

some_cond : (b : Bool) (x y : ℕ) → Some x ≡ cond b (Some y) None → (b ≡ true) × (x ≡ y)
some_cond true x y h = (refl, cc)
some_cond false x y h = absurd cc

none_cond : (b : Bool) (y : ℕ) → None ≡ cond b (Some y) None → b ≡ false
none_cond true y h = absurd cc
none_cond false y h = refl

cons_cond : {X : Type 0} (b : Bool) (x : X) (xs : List X) → cons_option (cond b (Some x) None) xs ≡ cond b (x ∷ xs) xs
cons_cond true x xs = refl
cons_cond false x xs = refl

filter_map_push : {X Y : Type 0} (g : X → Option Y) (xs : List X) (x : X) (o : Option Y) → g x ≡ o → filter_map g (xs ++ x ∷ []) ≡ filter_map g xs ++ cons_option o []
filter_map_push g [] x o e = ap (λ p. cons_option p []) e
filter_map_push g (y ∷ xs) x o e = ap (cons_option (g y)) (filter_map_push g xs x o e) ∙ cons_front (g y) (filter_map g xs) (cons_option o [])
  where
    cons_front : {Z : Type 0} (p : Option Z) (xs ys : List Z) → cons_option p (xs ++ ys) ≡ cons_option p xs ++ ys
    cons_front None xs ys = refl
    cons_front (Some z) xs ys = refl

-- the name that an edge of the chain gives the level
abbrev pub name_of : List Triple → ℕ → List ℕ → List ℕ → ℕ → ℕ × Edge → Option LevelName
name_of es n values vs v p = cond (in_level es vs v p.0) (Some (level_name es n values v p.0)) None

-- the edges of v give its level
walk_names : (es : List Triple) (n : ℕ) (values vs : List ℕ) (v : ℕ) (edges : List Edge) (k : ℕ) → filter_map (name_of es n values vs v) (rows_where (at_vertex es v) edges k) ≡ chain_names es n values vs v k
walk_names es n values vs v edges zero = refl
walk_names es n values vs v edges (suc k) = elim (cases_Bool (at_vertex es v k)) [
  | inl e ↦
      ap (filter_map (name_of es n values vs v)) (cond-true (at_vertex es v k) _ _ e) ∙
      ap (cons_option (name_of es n values vs v (k, link edges k))) (walk_names es n values vs v edges k) ∙
      cons_cond (in_level es vs v k) (level_name es n values v k) (chain_names es n values vs v k)
  | inr e ↦
      ap (filter_map (name_of es n values vs v)) (cond-false (at_vertex es v k) _ _ e) ∙ walk_names es n values vs v edges k ∙
      sym (cond-false (in_level es vs v k) _ _ (joins_miss vs v (get_or es k nil) e))
]

-- the first k names are those of the edges that were met
module _ (es : List Triple) (n : ℕ) (values vs : List ℕ) (v k : ℕ) (names : List LevelName) (met : List (ℕ × Edge)) (h : take k names ≡ filter_map (name_of es n values vs v) met) where
  pub names_end : (edges : List Edge) → met ≡ rows_where (at_vertex es v) edges n → take k names ≡ chain_names es n values vs v n
  names_end edges e = h ∙ ap (filter_map (name_of es n values vs v)) e ∙ walk_names es n values vs v edges n

  module _ (x : ℕ × Edge) (o : Option ℕ) (told : o ≡ cond (in_level es vs v x.0) (Some (offset n values v (get_or es x.0 nil))) None) where
    pub names_take : (y : ℕ) → o ≡ Some y → k < length names → take (k + 1) (set names k (record { row = x.0; offset = y })) ≡ filter_map (name_of es n values vs v) (met ++ x ∷ [])
    names_take y is l =
        let t = some_cond (in_level es vs v x.0) y (offset n values v (get_or es x.0 nil)) (sym is ∙ told) in
        take_more_set names k (record { row = x.0; offset = y }) l ∙ ap (λ z. take k names ++ record { row = x.0; offset = z } ∷ []) t.1 ∙
        ap (λ xs. xs ++ level_name es n values v x.0 ∷ []) h ∙ sym (filter_map_push (name_of es n values vs v) met x (Some (level_name es n values v x.0)) (cond-true (in_level es vs v x.0) _ _ t.0))

    pub names_pass : o ≡ None → take k names ≡ filter_map (name_of es n values vs v) (met ++ x ∷ [])
    names_pass is =
        let t = none_cond (in_level es vs v x.0) (offset n values v (get_or es x.0 nil)) (sym is ∙ told) in
        h ∙ sym (append-nil (filter_map (name_of es n values vs v) met)) ∙ sym (filter_map_push (name_of es n values vs v) met x None (cond-false (in_level es vs v x.0) _ _ t))

-- an edge of v
module _ (es : List Triple) (r : ℕ) (edges : List Edge) (vertices : List Vertex) (g : Graph es r edges vertices) (v : ℕ) where
  abbrev far_of : Edge → ℕ
  far_of e = cond (ltb v r) e.h2 e.h1

  module _ (j : ℕ) (m : j < length es) (there : at_vertex es v j ≡ true) where
    abbrev t : Triple
    t = get_or es j nil

    h : Halves r t
    h = All-get_or (Halves r) es j nil m g.halves

    e : Linked es j (link edges j)
    e = g.edge j m

    -- the far end decides whether the edge is in the level
    pub record Met (vs : List ℕ) : Type 0 where
      pub far : far_of (link edges j) ≡ far_end v t
      pub below : far_of (link edges j) < 2 * r
      pub joined : joins vs v t ≡ among (far_of (link edges j)) vs

    met_low : (vs : List ℕ) → v < r → Met vs
    met_low vs l =
        let is : eqb v t.h1 ≡ true = sym (touches_low r v t h l) ∙ there in
        let far_is : far_of (link edges j) ≡ t.h2 = cond-true (ltb v r) _ _ (lt-ltb v r l) ∙ e.h2 in
        record {
          far = far_is ∙ sym (cond-true (eqb v t.h1) _ _ is);
          below = omega (arith, far_is, h.below);
          joined = ap₂ (λ x y. (x && among t.h2 vs) || (y && among t.h1 vs)) is (ne_eqb v t.h2 (λ q. omega (arith, h.high))) ∙ or_false (among t.h2 vs) ∙ ap (λ u. among u vs) (sym far_is);
        }

    met_high : (vs : List ℕ) → r ≤ v → Met vs
    met_high vs l =
        let is : eqb v t.h2 ≡ true = sym (touches_high r v t h l) ∙ there in
        let is_not : eqb v t.h1 ≡ false = ne_eqb v t.h1 (λ q. omega (arith, h.low)) in
        let far_is : far_of (link edges j) ≡ t.h1 = cond-false (ltb v r) _ _ (le-ltb v r l) ∙ e.h1 in
        record {
          far = far_is ∙ sym (cond-false (eqb v t.h1) _ _ is_not);
          below = omega (arith, far_is, h.low);
          joined = ap₂ (λ x y. (x && among t.h2 vs) || (y && among t.h1 vs)) is_not is ∙ ap (λ u. among u vs) (sym far_is);
        }

    met : (vs : List ℕ) → Met vs
    met vs = elim (cases_lt v r) [ inl l ↦ met_low vs l | inr l ↦ met_high vs l ]

  module _ (values : List ℕ) (size level : ℕ) (placed : (u : ℕ) → u < 2 * r → Placed (order es r) u (row vertices u).place) (have : Valued (2 * r) values vertices) where
    abbrev vs : List ℕ
    vs = take level (order es r)

    abbrev offset_at : Edge → ℕ → Option ℕ
    offset_at x u = cond (ltb u (2 * r) && comes_before level (row vertices u).place) (Some ((x.h0 + (row vertices u).value) % size)) None

    abbrev Tells : ℕ × Edge → Type 0
    Tells x = offset_at x.1 (far_of x.1) ≡ cond (in_level es vs v x.0) (Some (offset size values v (get_or es x.0 nil))) None

    tells_at : (j : ℕ) → j < length es → at_vertex es v j ≡ true → Tells (j, link edges j)
    tells_at j m p =
        let w = met j m p vs in
        let x = link edges j in
        let u = far_of x in
        ap (λ b. cond (b && comes_before level (row vertices u).place) (Some ((x.h0 + (row vertices u).value) % size)) None) (lt-ltb u (2 * r) w.below) ∙
        ap (λ b. cond b (Some ((x.h0 + (row vertices u).value) % size)) None)
        (earlier_is (2 * r) (order es r) (order_lined es r) level u (row vertices u).place (placed u w.below) ∙ sym w.joined) ∙
        ap₂ (λ a b. cond (in_level es vs v j) (Some ((a + b) % size)) None) (g.edge j m).h0 (have u w.below ∙ ap (λ i. get_or values i 0) w.far)

    abbrev all : List (ℕ × Edge)
    all = rows_where (at_vertex es v) edges (length es)

    pub part_tells : (m : ℕ) → m ≤ length vertices → (h0 u : ℕ) → cond (ltb u (length (take m vertices)) && comes_before level (row (take m vertices) u).place) (Some ((h0 + (row (take m vertices) u).value) % size)) None ≡ cond (ltb u m && comes_before level (row vertices u).place) (Some ((h0 + (row vertices u).value) % size)) None
    part_tells m l h0 u =
        let long = length-take-le m vertices l in
        elim (cases_lt u m) [
          | inl b ↦ let is : row (take m vertices) u ≡ row vertices u = get_or-take m vertices u bare b in λ i. cond (ltb u (long i) && comes_before level (is i).place) (Some ((h0 + (is i).value) % size)) None
          | inr b ↦ ap (λ t. cond (t && comes_before level (row (take m vertices) u).place) (Some ((h0 + (row (take m vertices) u).value) % size)) None) (ap (ltb u) long ∙ le-ltb u m b) ∙
              sym (ap (λ t. cond (t && comes_before level (row vertices u).place) (Some ((h0 + (row vertices u).value) % size)) None) (le-ltb u m b))
        ]

    pub offset_tells : (k : ℕ) (x : ℕ × Edge) → k < length all → x ≡ get_or all k x → (u : ℕ) (o : Option ℕ) → u ≡ far_of x.1 → o ≡ offset_at x.1 u → o ≡ cond (in_level es vs v x.0) (Some (offset size values v (get_or es x.0 nil))) None
    offset_tells k x l is u o eu eo =
        let q = listed_passes (at_vertex es v) edges (length es) k l in
        eo ∙ ap (offset_at x.1) eu ∙ subst Tells (sym (is ∙ q.3 x)) (tells_at q.0 q.1 q.2)
