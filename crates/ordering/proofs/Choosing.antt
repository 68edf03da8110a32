-- What comes out of the heap, or starts a new part, is next in the order.
use Rattle.std.proofs.Common.{◌≡◌, ℕ, zero, suc, ◌+◌, ◌*◌, ◌<◌, ◌≤◌, Bool, true, false, not, ◌&&◌, ◌||◌, eqb, List, [], ◌∷◌, ◌++◌, length, get_or, set, Some, None, Option, sym, refl, ap, ◌∙◌, subst, inl, inr, arith}
use Rattle.std.specs.List.{AllByRecursion}
use Rattle.std.specs.List.Sorted.{IsPermutation}
use Rattle.std.proofs.lemmas.Bool.{cases_eq, cases_Bool, both_ways, eq-eqb, ne_eqb, or_left, or_right, or_cases, or_from, and_from, and_parts, not-true, not_from_false, ltb-false, cond-true, cond-false}
use Rattle.std.proofs.lemmas.List.{length_push, get_or_push, get_or_append_left}
use Rattle.std.proofs.lemmas.List.Sums.{sum_by-cons}
use Rattle.std.proofs.ByRecursion.{all_shuffled}
use Rattle.heap.specs.Order.{Leads}
use Rattle.orders.specs.Sooner.{sooner}
use Rattle.orders.specs.declared.waiting.Waiting.{Waiting}
use Rattle.hashing.specs.Triples.{Triple}
use Rattle.runs.specs.Lists.{among}
use Rattle.runs.specs.Order.{touches, degree, joins, joined, waits_joined}
use Rattle.runs.proofs.Times.{one_true}
use Rattle.graph.specs.declared.rows.Vertex.{Vertex}
use Rattle.graph.specs.declared.rows.Place.{Place}
use Rattle.graph.specs.declared.rows.Place.TheVariants.{Unseen, Waits, At}
use Rattle.graph.specs.Chains.{row}
use Rattle.ordering.specs.Queue.{is_unseen, waiting, Stands, is_of, times_in, Known, Queued, Weighed, Greatest, degree_at, unseen_at, Without, Chosen, at_place}
use Rattle.ordering.proofs.Queues.{waiting_is, is_of_same, is_of_other, times_less, unseen_is, moved_there, moved_other}

pub among_at : (vs : List ℕ) (k u : ℕ) → k < length vs → get_or vs k 0 ≡ u → among u vs ≡ true
among_at [] k u l e = absurd (omega arith)
among_at (v ∷ vs) zero u l e = or_left (eqb u v) (among u vs) (eq-eqb u v (sym e))
among_at (v ∷ vs) (suc k) u l e = or_right (eqb u v) (among u vs) (among_at vs k u (omega arith) e)

pub among_push_not : (vs : List ℕ) (v u : ℕ) → among u vs ≡ false → (u ≡ v → ⊥) → among u (vs ++ v ∷ []) ≡ false
among_push_not [] v u h e = or_from (eqb u v) false (ne_eqb u v e) refl
among_push_not (x ∷ vs) v u h e = elim (cases_Bool (eqb u x)) [
  | inl t ↦ absurd (both_ways (among u (x ∷ vs)) h (or_left (eqb u x) (among u vs) t))
  | inr t ↦ or_from (eqb u x) (among u (vs ++ v ∷ [])) t (among_push_not vs v u (sym (ap (λ b. b || among u vs) t) ∙ h) e)
]

-- what shares an edge has one
pub joined_degree : (es : List Triple) (vs : List ℕ) (v : ℕ) → joined es vs v ≡ true → 0 < degree es v
joined_degree [] vs v h = absurd (both_ways false refl h)
joined_degree (e ∷ es) vs v h = elim (or_cases (joins vs v e) (joined es vs v) h) [
  | inl j ↦ elim (or_cases (eqb v e.h1 && among e.h2 vs) (eqb v e.h2 && among e.h1 vs) j) [
    | inl a ↦ omega (arith, one_true (touches v e) (or_left (eqb v e.h1) (eqb v e.h2) (and_parts (eqb v e.h1) (among e.h2 vs) a).0))
    | inr a ↦ omega (arith, one_true (touches v e) (or_right (eqb v e.h1) (eqb v e.h2) (and_parts (eqb v e.h2) (among e.h1 vs) a).0))
  ]
  | inr a ↦ omega (arith, joined_degree es vs v a)
]

find_held : (P : Waiting → Type 0) (u : ℕ) (hs : List Waiting) → AllByRecursion P hs → 0 < times_in u hs → (w : Waiting) × P w × (w.vertex ≡ u)
find_held P u [] h l = absurd (omega arith)
find_held P u (w ∷ hs) h l = elim (cases_eq u w.vertex) [
  | inl e ↦ (w, h.0, sym e)
  | inr e ↦ find_held P u hs h.1 (omega (arith, sum_by-cons (is_of u) w hs, is_of_other u w e))
]

both : {X : Type 0} (P Q : X → Type 0) (xs : List X) → AllByRecursion P xs → AllByRecursion Q xs → AllByRecursion (λ x. P x × Q x) xs
both P Q [] a b = tt
both P Q (x ∷ xs) a b = ((a.0, b.0), both P Q xs a.1 b.1)

later : (w y : Waiting) → sooner w y ≡ false → (w.degree ≤ y.degree) × (w.degree ≡ y.degree → y.vertex ≤ w.vertex)
later w y h = elim (cases_eq w.degree y.degree) [
  | inl e ↦
      let z : y.vertex ≤ w.vertex = ltb-false w.vertex y.vertex (sym (cond-true (eqb w.degree y.degree) _ _ (eq-eqb w.degree y.degree e)) ∙ h) in
      (omega arith, λ _. z)
  | inr e ↦
      (ltb-false y.degree w.degree (sym (cond-false (eqb w.degree y.degree) _ _ (ne_eqb w.degree y.degree e)) ∙ h), λ q. absurd (e q))
]

module _ (es : List Triple) (r : ℕ) (vs : List ℕ) (vertices : List Vertex) (hs : List Waiting)
    (wd : Weighed (2 * r) (degree es) vertices) (q : Queued (2 * r) (degree es) vs (joined es vs) vertices hs) where
  waits_at : (u : ℕ) (p : Place) → Stands vs (joined es vs) u p → waits_joined es vs u ≡ true → p ≡ Waits
  waits_at u Unseen s h = absurd (both_ways (joined es vs u) s.1 (and_parts (not (among u vs)) (joined es vs u) h).1)
  waits_at u Waits s h = refl
  waits_at u (At k) s h = absurd (both_ways (among u vs) (not-true (among u vs) (and_parts (not (among u vs)) (joined es vs u) h).0) (among_at vs k u s.0 s.1))

  joined_waits : (u : ℕ) → u < 2 * r → waits_joined es vs u ≡ true → (row vertices u).place ≡ Waits
  joined_waits u l h = waits_at u (row vertices u).place (q.stands u l) h

  module _ (y : Waiting) (hs' : List Waiting) (f : AllByRecursion (Leads sooner y) hs) (s : IsPermutation hs (y ∷ hs')) where
    v : ℕ
    v = y.vertex

    knowns : Known (2 * r) (degree es) y × AllByRecursion (Known (2 * r) (degree es)) hs'
    knowns = all_shuffled (Known (2 * r) (degree es)) hs (y ∷ hs') s q.known

    counted : times_in y.vertex hs ≡ 1 + times_in y.vertex hs'
    counted = times_less y.vertex y hs hs' s ∙ ap (λ n. n + times_in y.vertex hs') (is_of_same y.vertex y refl)

    stood : (row vertices y.vertex).place ≡ Waits
    stood = waiting_is (row vertices y.vertex).place (omega (arith, counted, q.once y.vertex knowns.0.below))

    standing : Stands vs (joined es vs) y.vertex Waits
    standing = subst (Stands vs (joined es vs) y.vertex) stood (q.stands y.vertex knowns.0.below)

    behind : (u : ℕ) → u < 2 * r → waits_joined es vs u ≡ true → (degree es u ≤ degree es y.vertex) × (degree es u ≡ degree es y.vertex → y.vertex ≤ u)
    behind u l h =
        let p = find_held (λ w. Leads sooner y w × Known (2 * r) (degree es) w) u hs (both (Leads sooner y) (Known (2 * r) (degree es)) hs f q.known) (omega (arith, q.once u l, ap waiting (joined_waits u l h))) in
        let k = later p.0 y p.1.0 in
        let dw : p.0.degree ≡ degree es u = p.1.1.weighs ∙ ap (degree es) p.2 in
        let dy : y.degree ≡ degree es y.vertex = knowns.0.weighs in
        (omega (arith, k.0), λ e. omega (arith, k.1 (dw ∙ e ∙ sym dy), p.2))

    pub popped : Chosen es r vs hs hs' (Some y.vertex)
    popped = (
      inl (record {
        passes = and_from (not (among y.vertex vs)) (joined es vs y.vertex) (not_from_false (among y.vertex vs) standing.0) standing.1;
        below = knowns.0.below;
        above_zero = joined_degree es vs y.vertex standing.1;
        greatest_weight = λ u l h. (behind u l h).0;
        lowest = λ u l h e. (behind u l h).1 e;
      }),
      record {
        others = λ u e. sym (times_less u y hs hs' s ∙ ap (λ n. n + times_in u hs') (is_of_other u y e) ∙ omega arith);
        gone = omega (arith, counted, q.once y.vertex knowns.0.below, ap waiting stood);
        known = knowns.1;
      },
    )

    pub popped_low : y.vertex < 2 * r
    popped_low = knowns.0.below

  module _ (hs' : List Waiting) (e : hs ≡ []) (e' : hs' ≡ []) where
    none_waits : (u : ℕ) → u < 2 * r → (row vertices u).place ≡ Waits → ⊥
    none_waits u l w = omega (arith, q.once u l, ap waiting w, ap (times_in u) e)

    unseen_at_all : (u : ℕ) (p : Place) → Stands vs (joined es vs) u p → (p ≡ Waits → ⊥) → among u vs ≡ false → is_unseen p ≡ true
    unseen_at_all u Unseen s n a = refl
    unseen_at_all u Waits s n a = absurd (n refl)
    unseen_at_all u (At k) s n a = absurd (both_ways (among u vs) a (among_at vs k u s.0 s.1))

    unseen_here : (u : ℕ) → u < 2 * r → among u vs ≡ false → unseen_at vertices u ≡ true
    unseen_here u l a = unseen_at_all u (row vertices u).place (q.stands u l) (none_waits u l) a

    not_among : (u : ℕ) → u < 2 * r → unseen_at vertices u ≡ true → among u vs ≡ false
    not_among u l h = (subst (Stands vs (joined es vs) u) (unseen_is (row vertices u).place h) (q.stands u l)).0

    pub started : (o : Option ℕ) → Greatest (degree_at vertices) (unseen_at vertices) (2 * r) o → Chosen es r vs hs hs' o
    started None h = λ u l d. elim (cases_Bool (among u vs)) [
      | inl t ↦ t
      | inr t ↦ absurd (omega (arith, h u l (unseen_here u l t), wd u l))
    ]
    started (Some b) h = (
      inr (
        (λ u l w. absurd (none_waits u l (joined_waits u l w))),
        record {
          passes = not_from_false (among b vs) (not_among b h.below h.passes);
          below = h.below;
          above_zero = omega (arith, h.above_zero, wd b h.below);
          greatest_weight = λ u l w. omega (arith, h.greatest_weight u l (unseen_here u l (not-true (among u vs) w)), wd u l, wd b h.below);
          lowest = λ u l w z. h.lowest u l (unseen_here u l (not-true (among u vs) w)) (wd u l ∙ z ∙ sym (wd b h.below));
        },
      ),
      record {
        others = λ u n. ap (times_in u) (e' ∙ sym e);
        gone = ap (times_in b) e';
        known = subst (AllByRecursion (Known (2 * r) (degree es))) (sym e') tt;
      },
    )

-- the vertex that was chosen has its place
module _ (m : ℕ) (weight : ℕ → ℕ) (vs : List ℕ) (seen : ℕ → Bool) (vertices : List Vertex) (hs hs' : List Waiting) (v k : ℕ)
    (q : Queued m weight vs seen vertices hs) (w : Without m weight v hs hs') (l : v < m) (lv : m ≤ length vertices) (ek : k ≡ length vs) where
  stands_push : (u : ℕ) (p : Place) → (u ≡ v → ⊥) → Stands vs seen u p → Stands (vs ++ v ∷ []) seen u p
  stands_push u Unseen n s = (among_push_not vs v u s.0 n, s.1)
  stands_push u Waits n s = (among_push_not vs v u s.0 n, s.1)
  stands_push u (At j) n s = (omega (arith, s.0, length_push vs v), get_or_append_left vs (v ∷ []) 0 j s.0 ∙ s.1)

  abbrev after : List Vertex
  after = set vertices v (at_place (At k) (row vertices v))

  there : (row after v).place ≡ At k
  there = ap (λ (y : Vertex). y.place) (moved_there (At k) vertices v (omega arith))

  placed_now : Queued m weight (vs ++ v ∷ []) seen after hs'
  placed_now = record {
    stands = λ u a. elim (cases_eq u v) [
      | inl e ↦ subst (λ y. Stands (vs ++ v ∷ []) seen y (row after y).place) (sym e)
          (subst (Stands (vs ++ v ∷ []) seen v) (sym there) (omega (arith, length_push vs v), get_or_push vs v 0 k (sym ek)))
      | inr e ↦ subst (λ (y : Vertex). Stands (vs ++ v ∷ []) seen u y.place) (sym (moved_other (At k) vertices v u e)) (stands_push u (row vertices u).place e (q.stands u a))
    ];
    once = λ u a. elim (cases_eq u v) [
      | inl e ↦ ap (λ y. times_in y hs') e ∙ w.gone ∙ sym (ap (λ y. waiting (row after y).place) e ∙ ap waiting there)
      | inr e ↦ w.others u e ∙ q.once u a ∙ sym (ap (λ (y : Vertex). waiting y.place) (moved_other (At k) vertices v u e))
    ];
    known = w.known;
  }

  pub placed : (vertices' : List Vertex) → vertices' ≡ after → Queued m weight (vs ++ v ∷ []) seen vertices' hs'
  placed vertices' e = subst (λ y. Queued m weight (vs ++ v ∷ []) seen y hs') (sym e) placed_now
