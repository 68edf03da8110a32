-- The place of a vertex tells whether it is one of the first of the order.
use Rattle.std.proofs.Common.{◌≡◌, ℕ, zero, suc, ◌<◌, ◌≤◌, true, false, eqb, List, [], ◌∷◌, length, get_or, take, sym, refl, ap, ◌∙◌, inl, inr, arith}
use Rattle.std.proofs.lemmas.Bool.{cases_lt, cases_Bool, eq-eqb, eqb-true, or_left, or_right, or_cases, or_parts, or_from, both_ways, lt-ltb, le-ltb}
use Rattle.runs.specs.Lists.{among}
use Rattle.runs.proofs.Ordering.{Lined}
use Rattle.runs.proofs.Graph.{apart_at}
use Rattle.graph.specs.declared.rows.Place.{Place}
use Rattle.graph.specs.declared.rows.Place.TheVariants.{Unseen, Waits, At}
use Rattle.ordering.specs.Queue.{Placed}
use Rattle.leveling.specs.Level.{comes_before}

-- what stands at one of the first places is among them, and the other way round
stands : (us : List ℕ) (i j : ℕ) → i < j → i < length us → among (get_or us i 0) (take j us) ≡ true
stands [] i j a l = absurd (omega arith)
stands (u ∷ us) zero zero a l = absurd (omega arith)
stands (u ∷ us) zero (suc j) a l = or_left (eqb u u) (among u (take j us)) (eq-eqb u u refl)
stands (u ∷ us) (suc i) zero a l = absurd (omega arith)
stands (u ∷ us) (suc i) (suc j) a l = or_right (eqb (get_or us i 0) u) (among (get_or us i 0) (take j us)) (stands us i j (omega arith) (omega arith))

stood : (us : List ℕ) (u j : ℕ) → among u (take j us) ≡ true → (i : ℕ) × (i < j) × (i < length us) × (get_or us i 0 ≡ u)
stood us u zero h = absurd (both_ways false refl h)
stood [] u (suc j) h = absurd (both_ways false refl h)
stood (w ∷ us) u (suc j) h = elim (or_cases (eqb u w) (among u (take j us)) h) [
  | inl e ↦ (0, omega arith, omega arith, sym (eqb-true u w e))
  | inr e ↦ let p = stood us u j e in (suc p.0, omega (arith, p.1), omega (arith, p.2), p.3)
]

absent : (us : List ℕ) (u j : ℕ) → among u us ≡ false → among u (take j us) ≡ false
absent us u zero h = refl
absent [] u (suc j) h = refl
absent (w ∷ us) u (suc j) h = let p = or_parts (eqb u w) (among u us) h in or_from (eqb u w) (among u (take j us)) p.0 (absent us u j p.1)

module _ (m : ℕ) (vs : List ℕ) (lined : Lined m vs) (level u : ℕ) where
  late : (k : ℕ) → k < length vs → get_or vs k 0 ≡ u → level ≤ k → among u (take level vs) ≡ false
  late k l e h = elim (cases_Bool (among u (take level vs))) [
    | inl t ↦ let p = stood vs u level t in absurd (apart_at m vs lined p.0 k (omega (arith, p.1)) l (e ∙ sym p.3))
    | inr t ↦ t
  ]

  pub earlier_is : (p : Place) → Placed vs u p → comes_before level p ≡ among u (take level vs)
  earlier_is Unseen h = sym (absent vs u level h)
  earlier_is Waits h = absurd h
  earlier_is (At k) h = elim (cases_lt k level) [
    | inl l ↦ lt-ltb k level l ∙ sym (ap (λ w. among w (take level vs)) (sym h.1) ∙ stands vs k level l h.0)
    | inr l ↦ le-ltb k level l ∙ sym (late k h.0 h.1 l)
  ]
