-- What a fit of a level answers and leaves, where the lists hold what the fits before it left.
use Rattle.std.proofs.Common.{◌≡◌, ℕ, ◌*◌, ◌<◌, ◌≤◌, true, ◌&&◌, ltb, leb, List, ◌++◌, length, get_or, take, drop, set, is_some, Some, None, Option, sym, refl, ap, ◌∙◌, subst, inl, inr, arith}
use Rattle.std.proofs.lemmas.Bool.{cases_eq, and_parts, leb-true, ltb-true}
use Rattle.std.proofs.lemmas.List.{length-take-le, get_or-take, get_or-set_same, get_or-set_other, drop-set-lt, take_more, take_at}
use Rattle.std.proofs.ByRecursion.{All-get_or, All-weaker}
use Rattle.std.proofs.lemmas.List.FromFn.{get_or-map-range_with_len}
use Rattle.hashing.specs.Triples.{Triple}
use Rattle.ways.specs.Permutation.{Meaning, asked}
use Rattle.runs.specs.Order.{order}
use Rattle.runs.specs.Fitting.{first_fit}
use Rattle.runs.proofs.Ordering.{order_lined}
use Rattle.runs.proofs.Fits.{first_some}
use Rattle.runs.proofs.Graph.{fresh_at}
use Rattle.graph.specs.declared.rows.Edge.{Edge}
use Rattle.graph.specs.declared.rows.Vertex.{Vertex}
use Rattle.graph.specs.Chains.{Halves, bare, row}
use Rattle.ordering.specs.Queue.{Placed}
use Rattle.ordering.proofs.Gathering.{graph_kept}
use Rattle.fitting.specs.declared.level.LevelName.{LevelName}
use Rattle.fitting.specs.Placing.{offsets, FilledAre, Tried, placed}
use Rattle.leveling.specs.Level.{level_fits, valued, chain_names, filler, slot_rows, level_vertex, level_offsets, LevelGiven, LevelHeld, LevelNext, LevelFitted}
use Rattle.leveling.proofs.Counts.{chain_fit}
use Rattle.leveling.proofs.Rows.{length_placed, rows_more, filled_more}

same_pair : (p q : ℕ × ℕ) → Some p ≡ Some q → p ≡ q
same_pair p q e = cc

same_first : (x t y u : ℕ) → ◌≡◌ {A = Option (ℕ × ℕ)} (Some (x, t)) (Some (y, u)) → x ≡ y
same_first x t y u e = ap (λ (p : ℕ × ℕ). p.0) (same_pair (x, t) (y, u) e)

none_some : (x t : ℕ) → ◌≡◌ {A = Option (ℕ × ℕ)} None (Some (x, t)) → ⊥
none_some x t e = cc

-- what the lengths tell
pub record Long (n r level edges vertices ordered slots : ℕ) : Type 0 where
  pub some : 1 ≤ n
  pub few : n ≤ 1024
  pub edges_there : n ≤ edges
  pub sides : r ≤ 1024
  pub vertices_there : 2 * r ≤ vertices
  pub level_there : level < ordered
  pub slots_there : n ≤ slots

pub long_from : (n r level edges vertices ordered slots : ℕ) → level_fits n r level edges vertices ordered slots ≡ true → Long n r level edges vertices ordered slots
long_from n r level edges vertices ordered slots h =
    let a = and_parts (leb 1 n) (leb n 1024 && (leb n edges && (leb r 1024 && (leb (2 * r) vertices && (ltb level ordered && leb n slots))))) h in
    let b = and_parts (leb n 1024) (leb n edges && (leb r 1024 && (leb (2 * r) vertices && (ltb level ordered && leb n slots)))) a.1 in
    let c = and_parts (leb n edges) (leb r 1024 && (leb (2 * r) vertices && (ltb level ordered && leb n slots))) b.1 in
    let d = and_parts (leb r 1024) (leb (2 * r) vertices && (ltb level ordered && leb n slots)) c.1 in
    let e = and_parts (leb (2 * r) vertices) (ltb level ordered && leb n slots) d.1 in
    let f = and_parts (ltb level ordered) (leb n slots) e.1 in
    record {
      some = leb-true 1 n a.0;
      few = leb-true n 1024 b.0;
      edges_there = leb-true n edges c.0;
      sides = leb-true r 1024 d.0;
      vertices_there = leb-true (2 * r) vertices e.0;
      level_there = ltb-true level ordered f.0;
      slots_there = leb-true n slots f.1;
    }

-- a vertex has a new value, and nothing else is new
module _ (vertices : List Vertex) (v x : ℕ) (low : v < length vertices) where
  kept_at : {X : Type 0} (f : Vertex → X) → ((a : Vertex) → f (valued x a) ≡ f a) → (u : ℕ) → f (row (set vertices v (valued x (row vertices v))) u) ≡ f (row vertices u)
  kept_at f h u = elim (cases_eq u v) [
    | inl e ↦ ap (λ w. f (row (set vertices v (valued x (row vertices v))) w)) e ∙ ap f (get_or-set_same vertices v (valued x (row vertices v)) bare low) ∙ h (row vertices v) ∙ ap (λ w. f (row vertices w)) (sym e)
    | inr e ↦ ap f (get_or-set_other vertices v u (valued x (row vertices v)) bare e)
  ]

  value_there : (values : List ℕ) (u : ℕ) → v < length values → (row vertices u).value ≡ get_or values u 0 → (row (set vertices v (valued x (row vertices v))) u).value ≡ get_or (set values v x) u 0
  value_there values u l h = elim (cases_eq u v) [
    | inl e ↦
        ap (λ w. (row (set vertices v (valued x (row vertices v))) w).value) e ∙ ap (λ (a : Vertex). a.value) (get_or-set_same vertices v (valued x (row vertices v)) bare low) ∙
        sym (ap (λ w. get_or (set values v x) w 0) e ∙ get_or-set_same values v x 0 l)
    | inr e ↦ ap (λ (a : Vertex). a.value) (get_or-set_other vertices v u (valued x (row vertices v)) bare e) ∙ h ∙ sym (get_or-set_other values v u x 0 e)
  ]

pub given_is : (n m v x : ℕ) (vertices vertices' : List Vertex) (slots slots' : List (Option ℕ)) → v < m → m ≤ length vertices → vertices' ≡ set vertices v (valued x (row vertices v)) → drop n slots' ≡ drop n slots →
    LevelGiven n m v x vertices vertices' slots slots'
given_is n m v x vertices vertices' slots slots' l there e past =
    let low : v < length vertices = omega arith in
    record {
      low = l;
      given = e;
      first = λ u. ap (λ xs. (row xs u).first) e ∙ kept_at vertices v x low (λ a. a.first) (λ a. refl) u;
      degree = λ u. ap (λ xs. (row xs u).degree) e ∙ kept_at vertices v x low (λ a. a.degree) (λ a. refl) u;
      place = λ u. ap (λ xs. (row xs u).place) e ∙ kept_at vertices v x low (λ a. a.place) (λ a. refl) u;
      vertices_past = ap (drop m) e ∙ drop-set-lt m vertices v (valued x (row vertices v)) l;
      slots_past = past;
    }

module _ (es : List Triple) (r n : ℕ) (values filled : List ℕ) (level : ℕ) (edges : List Edge) (vertices : List Vertex) (ordered : List ℕ) (slots : List (Option ℕ))
    (h : LevelHeld es r n values filled level edges vertices ordered slots) where
  abbrev earlier : List ℕ
  earlier = take level (order es r)

  abbrev v : ℕ
  v = level_vertex es r level

  pub vertex_is : get_or ordered level 0 ≡ v
  vertex_is = sym (get_or-take (length (order es r)) ordered level 0 h.inside) ∙ ap (λ xs. get_or xs level 0) h.graph.listed

  pub vertex_low : v < 2 * r
  vertex_low = All-get_or (λ u. u < 2 * r) (order es r) level 0 h.inside (order_lined es r).low

  module _ (there : n ≤ length slots) (names : List LevelName) (listed : names ≡ chain_names es n values earlier (get_or ordered level 0) n) where
    names_are : names ≡ chain_names es n values earlier v n
    names_are = listed ∙ ap (λ u. chain_names es n values earlier u n) vertex_is

    long : length (take n slots) ≡ n
    long = length-take-le n slots there

    are : FilledAre filled (take n slots)
    are s l =
        ap (λ xs. is_some (get_or xs s None)) h.rows ∙ ap is_some (get_or-map-range_with_len (filler es n values earlier) 0 n s s None (omega (arith, long)) (omega arith)) ∙
        sym (h.filled_at s (omega (arith, long)))

    pub answer_is : (way : Meaning) (o : Option (ℕ × ℕ)) (part : List (Option ℕ)) → part ≡ take n slots → way.size ≡ n → Tried way level (offsets names) part o → o ≡ first_fit n (asked way level) filled (level_offsets es r n values level) n 0
    answer_is way o part is sized tried =
        (subst (λ xs. Tried way level (offsets names) xs o) is tried).first (sized ∙ sym long) filled are ∙ ap (λ m. first_fit m (asked way level) filled (offsets names) m 0) long ∙
        ap (λ xs. first_fit n (asked way level) filled (offsets xs) n 0) names_are ∙ chain_fit filled es n (asked way level) values earlier v n 0 h.counted

    pub next_is : (way : Meaning) (x tries : ℕ) → first_fit n (asked way level) filled (level_offsets es r n values level) n 0 ≡ Some (x, tries) →
        2 * r ≤ length vertices → (vertices' : List Vertex) (slots' : List (Option ℕ)) → vertices' ≡ set vertices (get_or ordered level 0) (valued x (row vertices (get_or ordered level 0))) →
        take n slots' ≡ placed x names (take n slots) → LevelNext es r n values filled level x edges vertices' ordered slots'
    next_is way x tries found room vertices' slots' given rows =
        let fits = (first_some n (asked way level) filled (level_offsets es r n values level) n 0 (x, tries) found).fits in
        let ends = All-weaker (Halves r) (λ e. e.h1 ≡ e.h2 → ⊥) (λ e p q. omega (arith, p.low, p.high)) es h.graph.graph.halves in
        let inside : v < length values = omega (arith, h.value_count, vertex_low) in
        let fresh = fresh_at (2 * r) (order es r) (order_lined es r) level h.inside in
        let more = take_more (order es r) level 0 h.inside in
        let is : vertices' ≡ set vertices v (valued x (row vertices v)) = given ∙ ap (λ u. set vertices u (valued x (row vertices u))) vertex_is in
        let k = given_is n (2 * r) v x vertices vertices' slots slots vertex_low room is refl in
        let low : v < length vertices = omega (arith, vertex_low) in
        record {
          graph = record {
            graph = graph_kept es r edges vertices vertices' k.first k.degree h.graph.graph;
            counted = h.graph.counted;
            listed = h.graph.listed;
            placed = λ u l. subst (Placed (order es r) u) (sym (k.place u)) (h.graph.placed u l);
          };
          value_at = λ u l. ap (λ xs. (row xs u).value) is ∙ value_there vertices v x low values u inside (h.value_at u l);
          rows =
              rows ∙ ap (λ xs. placed x xs (take n slots)) names_are ∙ ap (placed x (chain_names es n values earlier v n)) h.rows ∙
              rows_more es n values filled earlier v x h.counted ends inside fresh fits h.filled_at ∙ ap (slot_rows es n (set values v x)) (sym more);
          filled_at = λ s l.
              filled_more es n values filled earlier v x h.counted ends inside fresh fits h.filled_at s l ∙
              ap (λ us. is_some (filler es n (set values v x) us s)) (sym more);
        }

    pub fitted_none : (way : Meaning) (part : List (Option ℕ)) → part ≡ take n slots → way.size ≡ n → Tried way level (offsets names) part None → LevelFitted way es r n values filled level edges vertices ordered slots None
    fitted_none way part is sized tried = record {
      answer = answer_is way None part is sized tried;
      next = λ x tries e. absurd (none_some x tries e);
    }

    -- the part of the slots after the names were placed in it, and the rest
    pub fitted_some : (way : Meaning) (x tries : ℕ) (part part' rest : List (Option ℕ)) → part ≡ take n slots → way.size ≡ n → Tried way level (offsets names) part (Some (x, tries)) →
        2 * r ≤ length vertices → (vertices' : List Vertex) → vertices' ≡ set vertices (get_or ordered level 0) (valued x (row vertices (get_or ordered level 0))) → part' ≡ placed x names part →
        LevelFitted way es r n values filled level edges vertices' ordered (part' ++ rest) (Some (x, tries))
    fitted_some way x tries part part' rest is sized tried room vertices' given rows =
        let answer = answer_is way (Some (x, tries)) part is sized tried in
        let size : length part' ≡ n = ap length rows ∙ length_placed x names part ∙ ap length is ∙ long in
        let next = next_is way x tries (sym answer) room vertices' (part' ++ rest) given (take_at part' rest n size ∙ rows ∙ ap (placed x names) is) in
        record {
          answer = answer;
          next = λ y u e. subst (λ w. LevelNext es r n values filled level w edges vertices' ordered (part' ++ rest)) (same_first x tries y u e) next;
        }
