-- The search for the vertex that a new part of the order begins with.
use Rattle.std.proofs.Common.{◌≡◌, ℕ, ◌+◌, ◌-◌, ◌<◌, ◌≤◌, Bool, true, false, ◌&&◌, eqb, List, length, take, drop, Some, None, Option, sym, ap, ◌∙◌, subst, inl, inr, arith}
use Rattle.std.specs.List.{AllWithin, HoldsAt}
use Rattle.std.proofs.lemmas.Bool.{cases_lt, cases_eq, both_ways, and_parts, and_from, eqb-true, eq-eqb}
use Rattle.std.proofs.lemmas.List.{get_or-take, get_or-drop, length-drop, length-take-le}
use Rattle.runs.specs.Order.{Best}
use Rattle.graph.specs.declared.rows.Vertex.{Vertex}
use Rattle.graph.specs.Chains.{bare, row}
use Rattle.ordering.specs.Queue.{is_unseen, Greatest, Led, Bounded, Replaced, degree_at, unseen_at}

abbrev pub most_of : (ℕ → ℕ) → Option ℕ → ℕ
most_of weight None = 0
most_of weight (Some b) = weight b

module _ (weight : ℕ → ℕ) (ok : ℕ → Bool) where
  most_bounds : (v : ℕ) (o : Option ℕ) → Greatest weight ok v o → (u : ℕ) → u < v → ok u ≡ true → weight u ≤ most_of weight o
  most_bounds v None h u l g = omega (arith, h u l g)
  most_bounds v (Some b) h u l g = h.greatest_weight u l g

  step_found : (v : ℕ) (o : Option ℕ) → Greatest weight ok v o → ok v ≡ true → most_of weight o < weight v → Greatest weight ok (v + 1) (Some v)
  step_found v o h a b = record {
    passes = a;
    below = omega arith;
    above_zero = omega arith;
    greatest_weight = λ u l g. elim (cases_eq u v) [ inl e ↦ omega (arith, ap weight e) | inr e ↦ omega (arith, most_bounds v o h u (omega arith) g) ];
    lowest = λ u l g w. elim (cases_eq u v) [ inl e ↦ omega arith | inr e ↦ absurd (omega (arith, most_bounds v o h u (omega arith) g)) ];
  }

  step_kept : (v : ℕ) (o : Option ℕ) → Greatest weight ok v o → (ok v ≡ true → weight v ≤ most_of weight o) → Greatest weight ok (v + 1) o
  step_kept v None h k = λ u l g. elim (cases_eq u v) [ inl e ↦ omega (arith, ap weight e, k (ap ok (sym e) ∙ g)) | inr e ↦ h u (omega arith) g ]
  step_kept v (Some b) h k = record {
    passes = h.passes;
    below = omega (arith, h.below);
    above_zero = h.above_zero;
    greatest_weight = λ u l g. elim (cases_eq u v) [ inl e ↦ omega (arith, ap weight e, k (ap ok (sym e) ∙ g)) | inr e ↦ h.greatest_weight u (omega arith) g ];
    lowest = λ u l g w. elim (cases_eq u v) [ inl e ↦ omega (arith, h.below) | inr e ↦ h.lowest u (omega arith) g w ];
  }

  pub step_seen : (v : ℕ) (o : Option ℕ) → Greatest weight ok v o → ok v ≡ false → Greatest weight ok (v + 1) o
  step_seen v o h a = step_kept v o h (λ g. absurd (both_ways (ok v) a g))

  pub step_less : (v : ℕ) (o : Option ℕ) (most : ℕ) → Greatest weight ok v o → most ≡ most_of weight o → weight v ≤ most → Greatest weight ok (v + 1) o
  step_less v o most h e b = step_kept v o h (λ g. omega arith)

  -- the best of the vertices below v, and its degree
  abbrev pub SoFar : ℕ → Option ℕ → ℕ → Type 0
  SoFar v o most = Greatest weight ok v o × (most ≡ most_of weight o)

  pub so_far_found : (v : ℕ) (o o' : Option ℕ) (most most' : ℕ) → SoFar v o most → o' ≡ Some v → most' ≡ weight v → ok v ≡ true → most < weight v → SoFar (v + 1) o' most'
  so_far_found v o o' most most' h e f a b = subst (λ p. SoFar (v + 1) p most') (sym e) (step_found v o h.0 a (omega (arith, h.1)), f)

  pub so_far_kept : (v : ℕ) (o o' : Option ℕ) (most most' : ℕ) → Greatest weight ok (v + 1) o → most ≡ most_of weight o → o' ≡ o → most' ≡ most → SoFar (v + 1) o' most'
  so_far_kept v o o' most most' h g e f = subst (λ p. SoFar (v + 1) p most') (sym e) (h, f ∙ g)

-- a vertex to which a search for this degree comes
abbrev pub hit : ℕ → Vertex → Bool
hit most x = is_unseen x.place && eqb x.degree most

-- the search that goes on
module _ (m : ℕ) (vertices : List Vertex) where
  pub led_best : (b v : ℕ) → Led m vertices b → v < m → unseen_at vertices v ≡ true → degree_at vertices v ≡ degree_at vertices b →
      ((u : ℕ) → b ≤ u → u < v → unseen_at vertices u ≡ true → degree_at vertices u ≡ degree_at vertices b → ⊥) → Best (degree_at vertices) (unseen_at vertices) m v
  led_best b v h l ok e none = record {
    passes = ok;
    below = l;
    above_zero = omega (arith, h.above_zero);
    greatest_weight = λ u a o. omega (arith, h.greatest_weight u a o);
    lowest = λ u a o w. elim (cases_lt u v) [
      | inl x ↦ absurd (none u (h.lowest u a o (w ∙ e)) x o (w ∙ e))
      | inr x ↦ x
    ];
  }

  pub resumed_best : (b ahead : ℕ) → m ≡ length vertices → Led m vertices b → (ahead < length (drop b vertices)) × HoldsAt (λ x. hit (degree_at vertices b) x ≡ true) (drop b vertices) ahead × AllWithin (λ x. hit (degree_at vertices b) x ≡ false) (drop b vertices) 0 ahead → Best (degree_at vertices) (unseen_at vertices) m (b + ahead)
  resumed_best b ahead e h f =
      let most = degree_at vertices b in
      let p = and_parts (unseen_at vertices (b + ahead)) (eqb (degree_at vertices (b + ahead)) most) (sym (ap (hit most) (get_or-drop b vertices ahead bare)) ∙ f.1 bare) in
      led_best b (b + ahead) h (omega (arith, f.0, length-drop b vertices)) p.0 (eqb-true (degree_at vertices (b + ahead)) most p.1)
      (λ u x y o w.
      let z : b + (u - b) ≡ u = omega arith in
      let no = f.2 (u - b) bare (omega arith) (omega arith) in
      both_ways (hit most (row vertices u)) (ap (λ i. hit most (row vertices i)) (sym z) ∙ sym (ap (hit most) (get_or-drop b vertices (u - b) bare)) ∙ no)
      (and_from (unseen_at vertices u) (eqb (degree_at vertices u) most) o (eq-eqb (degree_at vertices u) most w)))

  pub bounded_on : (vertices' : List Vertex) → Replaced m vertices vertices' → (o : Option ℕ) → Bounded m vertices o → Bounded m vertices' o
  bounded_on vertices' p None h = tt
  bounded_on vertices' p (Some b) h = record {
    below = h.below;
    above_zero = omega (arith, h.above_zero, p.degree b);
    greatest_weight = λ u a o. omega (arith, h.greatest_weight u a (p.unseen u o), p.degree u, p.degree b);
    lowest = λ u a o w. h.lowest u a (p.unseen u o) (sym (p.degree u) ∙ w ∙ p.degree b);
  }

-- the search over the first m vertices alone
module _ (m k : ℕ) (vertices : List Vertex) (e : k ≡ m) (there : m ≤ length vertices) where
  abbrev part : List Vertex
  part = take k vertices

  long : length part ≡ m
  long = ap (λ i. length (take i vertices)) e ∙ length-take-le m vertices there

  same : (u : ℕ) → u < m → row part u ≡ row vertices u
  same u l = get_or-take k vertices u bare (omega arith)

  weighs : (u : ℕ) → u < m → degree_at part u ≡ degree_at vertices u
  weighs u l = ap (λ (x : Vertex). x.degree) (same u l)

  shows : (u : ℕ) → u < m → unseen_at part u ≡ unseen_at vertices u
  shows u l = ap (λ (x : Vertex). is_unseen x.place) (same u l)

  pub greatest_whole : (o : Option ℕ) → Greatest (degree_at part) (unseen_at part) (length part) o → Greatest (degree_at vertices) (unseen_at vertices) m o
  greatest_whole None h = λ u l g. sym (weighs u l) ∙ h u (omega (arith, long)) (shows u l ∙ g)
  greatest_whole (Some b) h =
      let l : b < m = omega (arith, h.below, long) in
      record {
        passes = sym (shows b l) ∙ h.passes;
        below = l;
        above_zero = omega (arith, h.above_zero, weighs b l);
        greatest_weight = λ u a o. omega (arith, h.greatest_weight u (omega (arith, long)) (shows u a ∙ o), weighs u a, weighs b l);
        lowest = λ u a o w. h.lowest u (omega (arith, long)) (shows u a ∙ o) (weighs u a ∙ w ∙ sym (weighs b l));
      }
