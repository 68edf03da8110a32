-- What the heap of waiting vertices and the places of the vertices say of each other.
use Rattle.std.proofs.Common.{◌≡◌, ℕ, ◌+◌, ◌<◌, ◌≤◌, Bool, true, false, ◌||◌, eqb, List, [], ◌∷◌, map, length, take, set, Ok, Err, Result, sym, refl, ap, ◌∙◌, subst, inl, inr, arith}
use Rattle.std.specs.List.{AllByRecursion}
use Rattle.std.specs.List.Sorted.{IsPermutation}
use Rattle.std.proofs.lemmas.Bool.{cases_eq, cases_lt, both_ways, eq-eqb, ne_eqb, or_left}
use Rattle.std.proofs.lemmas.List.{get_or-set_same, get_or-set_other, drop-set-lt, length-map}
use Rattle.std.proofs.ByRecursion.{All-map, All-weaker, all_shuffled}
use Rattle.std.proofs.lemmas.List.Sums.{sum_by-cons}
use Rattle.std.proofs.lemmas.List.Sorted.{sum_by-IsPermutation}
use Rattle.heap.specs.Order.{Pushed}
use Rattle.orders.specs.declared.waiting.Waiting.{Waiting}
use Rattle.runs.proofs.Times.{one_le, one_true, one_false, times, Apart, tally_all, tally_le}
use Rattle.graph.specs.declared.rows.Vertex.{Vertex}
use Rattle.graph.specs.declared.rows.Place.{Place}
use Rattle.graph.specs.declared.rows.Place.TheVariants.{Unseen, Waits, At}
use Rattle.graph.specs.Chains.{bare, row}
use Rattle.ordering.specs.Queue.{is_unseen, waiting, Stands, is_of, times_in, Known, Queued, Replaced, unseen_at, at_place}

-- a vertex whose place is altered
module _ (p : Place) (vertices : List Vertex) (u : ℕ) where
  abbrev moved : List Vertex
  moved = set vertices u (at_place p (row vertices u))

  pub moved_there : u < length vertices → row moved u ≡ at_place p (row vertices u)
  moved_there l = get_or-set_same vertices u (at_place p (row vertices u)) bare l

  pub moved_other : (v : ℕ) → (v ≡ u → ⊥) → row moved v ≡ row vertices v
  moved_other v e = get_or-set_other vertices u v (at_place p (row vertices u)) bare e

  moved_keeps : (f : Vertex → ℕ) → ((x : Vertex) → f (at_place p x) ≡ f x) → u < length vertices → (v : ℕ) → f (row moved v) ≡ f (row vertices v)
  moved_keeps f h l v = elim (cases_eq v u) [
    | inl e ↦ ap (λ x. f (row moved x)) e ∙ ap f (moved_there l) ∙ h (row vertices u) ∙ ap (λ x. f (row vertices x)) (sym e)
    | inr e ↦ ap f (moved_other v e)
  ]

  moved_unseen : is_unseen p ≡ false → u < length vertices → (v : ℕ) → unseen_at moved v ≡ true → unseen_at vertices v ≡ true
  moved_unseen f l v h = elim (cases_eq v u) [
    | inl e ↦ absurd (both_ways (is_unseen p) f (sym (ap (λ x. unseen_at moved x) e ∙ ap (λ (x : Vertex). is_unseen x.place) (moved_there l)) ∙ h))
    | inr e ↦ sym (ap (λ (x : Vertex). is_unseen x.place) (moved_other v e)) ∙ h
  ]

  pub replaced_one : (m : ℕ) → is_unseen p ≡ false → u < m → m ≤ length vertices → Replaced m vertices moved
  replaced_one m f a b = record {
    unseen = moved_unseen f (omega arith);
    first = moved_keeps (λ x. x.first) (λ x. refl) (omega arith);
    degree = moved_keeps (λ x. x.degree) (λ x. refl) (omega arith);
    value = moved_keeps (λ x. x.value) (λ x. refl) (omega arith);
    rest = drop-set-lt m vertices u (at_place p (row vertices u)) a;
  }

pub replaced_none : (m : ℕ) (vertices : List Vertex) → Replaced m vertices vertices
replaced_none m vertices = record { first = λ v. refl; degree = λ v. refl; value = λ v. refl; unseen = λ v h. h; rest = refl }

pub replaced_both : (m : ℕ) (a b d : List Vertex) → Replaced m a b → Replaced m b d → Replaced m a d
replaced_both m a b d h k = record {
  first = λ v. k.first v ∙ h.first v;
  degree = λ v. k.degree v ∙ h.degree v;
  value = λ v. k.value v ∙ h.value v;
  unseen = λ v u. h.unseen v (k.unseen v u);
  rest = k.rest ∙ h.rest;
}

pub unseen_is : (p : Place) → is_unseen p ≡ true → p ≡ Unseen
unseen_is Unseen h = refl
unseen_is Waits h = absurd (both_ways false refl h)
unseen_is (At k) h = absurd (both_ways false refl h)

stands_seen : (vs : List ℕ) (seen seen' : ℕ → Bool) (u : ℕ) → seen u ≡ seen' u → (p : Place) → Stands vs seen u p → Stands vs seen' u p
stands_seen vs seen seen' u e Unseen h = (h.0, sym e ∙ h.1)
stands_seen vs seen seen' u e Waits h = (h.0, sym e ∙ h.1)
stands_seen vs seen seen' u e (At k) h = h

waiting_le : (p : Place) → waiting p ≤ 1
waiting_le Unseen = omega arith
waiting_le Waits = omega arith
waiting_le (At k) = omega arith

pub waiting_is : (p : Place) → 0 < waiting p → p ≡ Waits
waiting_is Unseen h = absurd (omega arith)
waiting_is Waits h = refl
waiting_is (At k) h = absurd (omega arith)

pub is_of_same : (u : ℕ) (w : Waiting) → u ≡ w.vertex → is_of u w ≡ 1
is_of_same u w e = one_true (eqb u w.vertex) (eq-eqb u w.vertex e)

pub is_of_other : (u : ℕ) (w : Waiting) → (u ≡ w.vertex → ⊥) → is_of u w ≡ 0
is_of_other u w e = one_false (eqb u w.vertex) (ne_eqb u w.vertex e)

times_more : (u : ℕ) (w : Waiting) (hs hs' : List Waiting) → IsPermutation (w ∷ hs) hs' → times_in u hs' ≡ is_of u w + times_in u hs
times_more u w hs hs' s = sum_by-IsPermutation (is_of u) (w ∷ hs) hs' s ∙ sum_by-cons (is_of u) w hs

pub times_less : (u : ℕ) (w : Waiting) (hs hs' : List Waiting) → IsPermutation hs (w ∷ hs') → times_in u hs ≡ is_of u w + times_in u hs'
times_less u w hs hs' s = sym (sum_by-IsPermutation (is_of u) hs (w ∷ hs') s) ∙ sum_by-cons (is_of u) w hs'

abbrev vertex_of : Waiting → ℕ
vertex_of w = w.vertex

times_map : (u : ℕ) (hs : List Waiting) → times u (map vertex_of hs) ≡ times_in u hs
times_map u [] = refl
times_map u (w ∷ hs) = ap (λ n. is_of u w + n) (times_map u hs) ∙ sym (sum_by-cons (is_of u) w hs)

times_past : (m u : ℕ) (xs : List ℕ) → AllByRecursion (λ x. x < m) xs → m ≤ u → times u xs ≡ 0
times_past m u [] h l = refl
times_past m u (x ∷ xs) h l = omega (arith, one_false (eqb u x) (ne_eqb u x (λ e. omega (arith, h.0))), times_past m u xs h.1 l)

pub pushed_room : (w : Waiting) (xs : List Waiting) (n : ℕ) (ys : List Waiting) (k : ℕ) (r : Result (Unit {0}) Waiting) → n < length xs → Pushed w xs n ys k r → IsPermutation (w ∷ take n xs) (take k ys)
pushed_room w xs n ys k (Ok _) l h = h.content
pushed_room w xs n ys k (Err y) l h = absurd (omega (arith, h.room))

module _ (m : ℕ) (weight : ℕ → ℕ) (vs : List ℕ) (vertices : List Vertex) (hs : List Waiting) where
  pub requeued : (seen seen' : ℕ → Bool) → ((u : ℕ) → seen u ≡ seen' u) → Queued m weight vs seen vertices hs → Queued m weight vs seen' vertices hs
  requeued seen seen' e q = record { stands = λ u l. stands_seen vs seen seen' u (e u) (row vertices u).place (q.stands u l); once = q.once; known = q.known }

  module _ (seen : ℕ → Bool) (q : Queued m weight vs seen vertices hs) (x : ℕ) (l : x < m) where
    abbrev seen_too : ℕ → Bool
    seen_too u = eqb u x || seen u

    other_seen : (u : ℕ) → (u ≡ x → ⊥) → seen u ≡ seen_too u
    other_seen u e = sym (ap (λ b. b || seen u) (ne_eqb u x e))

    module _ (f : is_unseen (row vertices x).place ≡ true) where
      is : (row vertices x).place ≡ Unseen
      is = unseen_is (row vertices x).place f

      none_waits : times_in x hs ≡ 0
      none_waits = q.once x l ∙ ap waiting is

      low : AllByRecursion (λ y. y < m) (map vertex_of hs)
      low = All-map (λ y. y < m) vertex_of hs (All-weaker (Known m weight) (λ w. w.vertex < m) (λ w k. k.below) hs q.known)

      apart : Apart (x ∷ map vertex_of hs)
      apart s = elim (cases_lt s m) [
        | inl a ↦ elim (cases_eq s x) [
          | inl e ↦ omega (arith, one_le (eqb s x), times_map s hs, ap (λ y. times_in y hs) e, none_waits)
          | inr e ↦ omega (arith, one_false (eqb s x) (ne_eqb s x e), times_map s hs, q.once s a, waiting_le (row vertices s).place)
        ]
        | inr a ↦ omega (arith, one_false (eqb s x) (ne_eqb s x (λ e. omega arith)), times_past m s (map vertex_of hs) low a)
      ]

      -- there is room for it
      pub has_room : length hs < m
      has_room = omega (arith, tally_all m (x ∷ map vertex_of hs) (l, low), tally_le m (x ∷ map vertex_of hs) apart, length-map hs vertex_of)

      -- a vertex is met for the first time
      pub met_new : m ≤ length vertices → (w : Waiting) → w.vertex ≡ x → w.degree ≡ weight x → (hs' : List Waiting) → IsPermutation (w ∷ hs) hs' →
          Queued m weight vs seen_too (set vertices x (at_place Waits (row vertices x))) hs'
      met_new lv w ev ed hs' s =
          let lx : x < length vertices = omega arith in
          let there : (row (set vertices x (at_place Waits (row vertices x))) x).place ≡ Waits = ap (λ (y : Vertex). y.place) (moved_there Waits vertices x lx) in
          let standing : Stands vs seen x Unseen = subst (Stands vs seen x) is (q.stands x l) in
          record {
            stands = λ u a. elim (cases_eq u x) [
              | inl e ↦ subst (λ y. Stands vs seen_too y (row (set vertices x (at_place Waits (row vertices x))) y).place) (sym e)
                  (subst (Stands vs seen_too x) (sym there) (standing.0, or_left (eqb x x) (seen x) (eq-eqb x x refl)))
              | inr e ↦ subst (λ y. Stands vs seen_too u y.place) (sym (moved_other Waits vertices x u e)) (stands_seen vs seen seen_too u (other_seen u e) (row vertices u).place (q.stands u a))
            ];
            once = λ u a. elim (cases_eq u x) [
              | inl e ↦ times_more u w hs hs' s ∙ omega (arith, is_of_same u w (e ∙ sym ev), ap (λ y. times_in y hs) e, none_waits, ap (λ y. waiting (row (set vertices x (at_place Waits (row vertices x))) y).place) e, ap waiting there)
              | inr e ↦ times_more u w hs hs' s ∙ omega (arith, is_of_other u w (λ z. e (z ∙ ev)), q.once u a, ap (λ (y : Vertex). waiting y.place) (moved_other Waits vertices x u e))
            ];
            known = all_shuffled (Known m weight) (w ∷ hs) hs' s (record { below = subst (λ y. y < m) (sym ev) l; weighs = ed ∙ ap weight (sym ev) }, q.known);
          }

      pub met_first : m ≤ length vertices → (w : Waiting) → w.vertex ≡ x → w.degree ≡ weight x → (hs' : List Waiting) → IsPermutation (w ∷ hs) hs' →
          (vertices' : List Vertex) → vertices' ≡ set vertices x (at_place Waits (row vertices x)) → Queued m weight vs seen_too vertices' hs'
      met_first lv w ev ed hs' s vertices' e = subst (λ y. Queued m weight vs seen_too y hs') (sym e) (met_new lv w ev ed hs' s)
