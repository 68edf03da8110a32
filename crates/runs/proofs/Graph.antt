-- The edges that names give, and the slots that fitting has filled.
use Rattle.std.proofs.Common.{◌≡◌, ℕ, zero, suc, ◌+◌, ◌*◌, ◌<◌, ◌≤◌, Bool, true, false, eqb, List, [], ◌∷◌, ◌++◌, map, length, get_or, take, drop, set, replicate, sym, refl, ap, ◌∙◌, inl, inr, mod-lt, arith}
use Rattle.std.specs.List.{AllByRecursion}
use Rattle.std.proofs.lemmas.Bool.{eq-eqb, cases_eq, and_from, and_parts, both_ways, or_left, or_right, or_parts, eqb-false, ne_eqb}
use Rattle.std.proofs.lemmas.List.{length-set, length-replicate, length-map, take_more, take-append-drop, drop_more, get_or-set_other}
use Rattle.std.proofs.ByRecursion.{All-weaker, All-map, All-set, All-get_or}
use Rattle.hashing.specs.Triples.{Triple, triple, sum}
use Rattle.runs.specs.Lists.{among}
use Rattle.runs.specs.Order.{touches, degree, order}
use Rattle.runs.specs.Fitting.{slot, level_of, offset, turned, free, settles}
use Rattle.runs.proofs.Times.{one_true, one_false, times, Apart, times_append, not_among_times, each_once}
use Rattle.runs.proofs.Ordering.{Lined, order_lined, order_all}
use Rattle.runs.proofs.Fits.{free_apart}
use Rattle.runs.proofs.Levels.{settled_by, among_push, level_adds}

-- an edge's two vertices, in their halves of 0 to 2r - 1
pub record Edge (r : ℕ) (e : Triple) : Type 0 where
  pub first_low : e.h1 < r
  pub second_high : r ≤ e.h2
  pub second_low : e.h2 < 2 * r

pub ends_differ : (r : ℕ) (es : List Triple) → AllByRecursion (Edge r) es → AllByRecursion (λ e. e.h1 ≡ e.h2 → ⊥) es
ends_differ r es edges = All-weaker (Edge r) (λ e. e.h1 ≡ e.h2 → ⊥) (λ e p q. omega (arith, p.first_low, p.second_high)) es edges

pub triple_edge : (t : List ℕ) (n r : ℕ) (s : List ℕ) → 1 ≤ r → Edge r (triple t n r s)
triple_edge t n r s h = record {
  first_low = mod-lt _ h;
  second_high = omega arith;
  second_low = omega (arith, mod-lt (sum t 2 s) h);
}

-- each edge counts at both of its vertices
degree_ends : (es : List Triple) → AllByRecursion (λ e. (0 < degree es e.h1) × (0 < degree es e.h2)) es
degree_ends [] = tt
degree_ends (e ∷ es) = (
  (
    omega (arith, one_true (touches e.h1 e) (or_left (eqb e.h1 e.h1) (eqb e.h1 e.h2) (eq-eqb e.h1 e.h1 refl))),
    omega (arith, one_true (touches e.h2 e) (or_right (eqb e.h2 e.h1) (eqb e.h2 e.h2) (eq-eqb e.h2 e.h2 refl))),
  ),
  All-weaker (λ f. (0 < degree es f.h1) × (0 < degree es f.h2)) (λ f. (0 < degree (e ∷ es) f.h1) × (0 < degree (e ∷ es) f.h2))
      (λ f p. (omega arith, omega arith)) es (degree_ends es),
)

all_both : {X : Type 0} (P Q R : X → Type 0) → ((x : X) → P x → Q x → R x) → (xs : List X) → AllByRecursion P xs → AllByRecursion Q xs → AllByRecursion R xs
all_both P Q R f [] p q = tt
all_both P Q R f (x ∷ xs) p q = (f x p.0 q.0, all_both P Q R f xs p.1 q.1)

-- the order settles every edge
pub all_within : (es : List Triple) (r : ℕ) → AllByRecursion (Edge r) es → AllByRecursion (λ e. settles (order es r) e ≡ true) es
all_within es r h =
    all_both (Edge r) (λ e. (0 < degree es e.h1) × (0 < degree es e.h2)) (λ e. settles (order es r) e ≡ true)
    (λ e p q. and_from (among e.h1 (order es r)) (among e.h2 (order es r))
    (order_all es r e.h1 (omega (arith, p.first_low)) q.0) (order_all es r e.h2 p.second_low q.1))
    es h (degree_ends es)

-- with an edge there is a first vertex
nonempty : (u : ℕ) (vs : List ℕ) → among u vs ≡ true → 0 < length vs
nonempty u [] h = absurd (both_ways false refl h)
nonempty u (v ∷ vs) h = omega arith

pub some_level : (es : List Triple) (r : ℕ) → 1 ≤ length es → AllByRecursion (Edge r) es → 0 < length (order es r)
some_level [] r h edges = absurd (omega arith)
some_level (e ∷ es) r h edges =
    nonempty e.h1 (order (e ∷ es) r)
    (and_parts (among e.h1 (order (e ∷ es) r)) (among e.h2 (order (e ∷ es) r)) (all_within (e ∷ es) r edges).0).0

-- the vertex at a place is none of those before it, so no earlier place holds it
module _ (m : ℕ) (vs : List ℕ) (lined : Lined m vs) where
  pub fresh_at : (i : ℕ) → i < length vs → among (get_or vs i 0) (take i vs) ≡ false
  fresh_at i l =
      not_among_times v (take i vs)
      (omega (arith, lined.apart v, ap (times v) (sym (take-append-drop i vs)), times_append v (take i vs) (drop i vs), ap (times v) (drop_more vs i 0 l), one_true (eqb v v) (eq-eqb v v refl)))
    where
      v : ℕ
      v = get_or vs i 0

  pub apart_at : (i j : ℕ) → i < j → j < length vs → get_or vs j 0 ≡ get_or vs i 0 → ⊥
  apart_at i j a b e = both_ways (among (get_or vs j 0) (take j vs)) (fresh_at j b) (ap (λ u. among u (take j vs)) e ∙ stands vs i j a (omega arith))
    where
      stands : (us : List ℕ) (i j : ℕ) → i < j → i < length us → among (get_or us i 0) (take j us) ≡ true
      stands [] i j a l = absurd (omega arith)
      stands (u ∷ us) zero zero a l = absurd (omega arith)
      stands (u ∷ us) zero (suc j) a l = or_left (eqb u u) (among u (take j us)) (eq-eqb u u refl)
      stands (u ∷ us) (suc i) zero a l = absurd (omega arith)
      stands (u ∷ us) (suc i) (suc j) a l = or_right (eqb (get_or us i 0) u) (among (get_or us i 0) (take j us)) (stands us i j (omega arith) (omega arith))

-- over m vertices: those of vs have their values and the others 0, and the filled slots are those of the names settled by vs, none twice
pub record Filled (n m : ℕ) (es : List Triple) (values filled vs : List ℕ) : Type 0 where
  pub size : length values ≡ m
  pub low : AllByRecursion (λ x. x < n) values
  pub others : (u : ℕ) → among u vs ≡ false → get_or values u 0 ≡ 0
  pub same : (s : ℕ) → times s filled ≡ times s (settled_by n values vs es)
  pub apart : Apart filled

all_zeros : (n k : ℕ) → 1 ≤ n → AllByRecursion (λ x. x < n) (replicate k 0)
all_zeros n zero h = tt
all_zeros n (suc k) h = (h, all_zeros n k h)

zeros_at : (k u : ℕ) → ◌≡◌ {A = ℕ} (get_or (replicate k 0) u 0) 0
zeros_at zero u = refl
zeros_at (suc k) zero = refl
zeros_at (suc k) (suc u) = zeros_at k u

settled_none : (n : ℕ) (values : List ℕ) (es : List Triple) → settled_by n values [] es ≡ []
settled_none n values [] = refl
settled_none n values (e ∷ es) = settled_none n values es

settled_all : (n : ℕ) (values vs : List ℕ) (es : List Triple) → AllByRecursion (λ e. settles vs e ≡ true) es → settled_by n values vs es ≡ map (slot n values) es
settled_all n values vs [] h = refl
settled_all n values vs (e ∷ es) h = simp h.0 (ap (λ l. slot n values e ∷ l) (settled_all n values vs es h.1))

pub filled_none : (n m : ℕ) (es : List Triple) → 1 ≤ n → Filled n m es (replicate m 0) [] []
filled_none n m es h = record {
  size = length-replicate m 0;
  low = all_zeros n m h;
  others = λ u e. zeros_at m u;
  same = λ s. ap (times s) (sym (settled_none n (replicate m 0) es));
  apart = λ s. omega arith;
}

-- one more vertex, with a value whose slots are free
filled_more : (n m : ℕ) (es : List Triple) (values filled vs : List ℕ) (v x : ℕ) → AllByRecursion (λ e. e.h1 ≡ e.h2 → ⊥) es →
    Filled n m es values filled vs → v < m → among v vs ≡ false → x < n →
    free filled (turned n x (map (offset n values v) (level_of es vs v))) ≡ true →
    Filled n m es (set values v x) (filled ++ turned n x (map (offset n values v) (level_of es vs v))) (vs ++ v ∷ [])
filled_more n m es values filled vs v x ends h inside fresh small ok = record {
  size = length-set values v x ∙ h.size;
  low = All-set (λ y. y < n) values v x small h.low;
  others = λ u e.
      let p = or_parts (eqb u v) (among u vs) (sym (among_push u v vs) ∙ e) in
      get_or-set_other values v u x 0 (eqb-false u v p.0) ∙ h.others u p.1;
  same = λ s. omega (arith, times_append s filled new, h.same s, level_adds n values vs v x (omega (arith, h.size)) fresh s es ends);
  apart = λ s. omega (arith, times_append s filled new, free_apart filled new ok s (h.apart s));
}
  where
    new : List ℕ
    new = turned n x (map (offset n values v) (level_of es vs v))

-- all settled: each slot below n is that of one name
pub filled_all : (n m : ℕ) (es : List Triple) (values filled vs : List ℕ) → 1 ≤ n → length es ≡ n → AllByRecursion (λ e. settles vs e ≡ true) es →
    Filled n m es values filled vs → (k : ℕ) → k < n → times k (map (slot n values) es) ≡ 1
filled_all n m es values filled vs some e all h =
    each_once n (map (slot n values) es) (length-map es (slot n values) ∙ e)
    (All-map (λ x. x < n) (slot n values) es (slots_low es))
    (λ s. omega (arith, h.apart s, h.same s, ap (times s) (settled_all n values vs es all)))
  where
    slots_low : (fs : List Triple) → AllByRecursion (λ e. slot n values e < n) fs
    slots_low [] = tt
    slots_low (f ∷ fs) = (mod-lt _ some, slots_low fs)

-- the next level of the order
pub filled_level : (n r : ℕ) (es : List Triple) (values filled : List ℕ) (i x : ℕ) → AllByRecursion (Edge r) es → i < length (order es r) →
    Filled n (2 * r) es values filled (take i (order es r)) → x < n →
    free filled (turned n x (map (offset n values (get_or (order es r) i 0)) (level_of es (take i (order es r)) (get_or (order es r) i 0)))) ≡ true →
    Filled n (2 * r) es (set values (get_or (order es r) i 0) x)
    (filled ++ turned n x (map (offset n values (get_or (order es r) i 0)) (level_of es (take i (order es r)) (get_or (order es r) i 0))))
    (take (i + 1) (order es r))
filled_level n r es values filled i x edges l h small ok =
    rw (take_more (order es r) i 0 l)
    (filled_more n (2 * r) es values filled (take i (order es r)) (get_or (order es r) i 0) x
    (ends_differ r es edges)
    h (All-get_or (λ v. v < 2 * r) (order es r) i 0 l (order_lined es r).low) (fresh_at (2 * r) (order es r) (order_lined es r) i l) small ok)

-- Settled names by their places, d being what is read past the end.
module _ (n : ℕ) (values vs : List ℕ) (d : Triple) where
  kept_cons : (e : Triple) (es : List Triple) (s : ℕ) → times s (settled_by n values vs es) ≤ times s (settled_by n values vs (e ∷ es))
  kept_cons e es s = go (settles vs e) refl
    where
      go : (b : Bool) → settles vs e ≡ b → times s (settled_by n values vs es) ≤ times s (settled_by n values vs (e ∷ es))
      go true q = simp q (omega arith)
      go false q = simp q (omega arith)

  -- a settled name with the slot s stands at a place
  abbrev AtPlace : List Triple → ℕ → Type 0
  AtPlace es s = (i : ℕ) × (i < length es) × (settles vs (get_or es i d) ≡ true) × (slot n values (get_or es i d) ≡ s)

  pub settled_place : (es : List Triple) (s : ℕ) → 1 ≤ times s (settled_by n values vs es) → AtPlace es s
  settled_place [] s h = absurd (omega arith)
  settled_place (e ∷ es) s h = go (settles vs e) refl (λ k. let p = settled_place es s k in (suc p.0, omega (arith, p.1), p.2, p.3))
    where
      go : (b : Bool) → settles vs e ≡ b → (1 ≤ times s (settled_by n values vs es) → AtPlace (e ∷ es) s) → AtPlace (e ∷ es) s
      go false q later = later (simp q at h)
      go true q later = elim (cases_eq s (slot n values e)) [
        | inl w ↦ (0, omega arith, q, sym w)
        | inr w ↦ later (omega (arith, simp q at h, one_false (eqb s (slot n values e)) (ne_eqb s (slot n values e) w)))
      ]

  pub place_settled : (es : List Triple) (i : ℕ) → i < length es → settles vs (get_or es i d) ≡ true → 1 ≤ times (slot n values (get_or es i d)) (settled_by n values vs es)
  place_settled [] i l h = absurd (omega arith)
  place_settled (e ∷ es) zero l h = simp h (omega (arith, one_true (eqb (slot n values e) (slot n values e)) (eq-eqb (slot n values e) (slot n values e) refl)))
  place_settled (e ∷ es) (suc i) l h = omega (arith, place_settled es i (omega arith) h, kept_cons e es (slot n values (get_or es i d)))

  pub settled_apart : (es : List Triple) → Apart (settled_by n values vs es) → (i j : ℕ) → i < j → j < length es →
      settles vs (get_or es i d) ≡ true → settles vs (get_or es j d) ≡ true → slot n values (get_or es i d) ≡ slot n values (get_or es j d) → ⊥
  settled_apart [] h i j a b p q e = omega arith
  settled_apart (f ∷ es) h zero zero a b p q e = omega arith
  settled_apart (f ∷ es) h zero (suc j) a b p q e =
      omega (
        arith,
        simp p at (h (slot n values f)),
        one_true (eqb (slot n values f) (slot n values f)) (eq-eqb (slot n values f) (slot n values f) refl),
        ap (λ s. times s (settled_by n values vs es)) e,
        place_settled es j (omega arith) q,
      )
  settled_apart (f ∷ es) h (suc i) zero a b p q e = omega arith
  settled_apart (f ∷ es) h (suc i) (suc j) a b p q e =
      settled_apart es (λ s. omega (arith, h s, kept_cons f es s)) i j (omega arith) (omega arith) p q e
