-- The last of some numbers that passes, and the degree of a vertex.
use Rattle.std.proofs.Common.{◌≡◌, ℕ, zero, suc, ◌+◌, ◌<◌, ◌≤◌, Bool, true, false, cond, ◌||◌, eqb, List, [], ◌∷◌, ◌++◌, length, get_or, sym, refl, ap, ◌∙◌, inl, inr, add-one, arith}
use Rattle.std.specs.List.{AllByRecursion}
use Rattle.std.proofs.lemmas.Bool.{cases_eq, cases_Bool, ne_eqb, cond-true, cond-false}
use Rattle.std.proofs.lemmas.List.{length_push, get_or_push, get_or_append_left}
use Rattle.std.proofs.ByRecursion.{All-get_or}
use Rattle.hashing.specs.Triples.{Triple}
use Rattle.runs.specs.Order.{touches, degree}
use Rattle.runs.proofs.Times.{one, one_le}
use Rattle.graph.specs.Chains.{nil, Halves, latest, at_vertex, same1, same2}

pub latest_same : (p q : ℕ → Bool) (k : ℕ) → ((j : ℕ) → j < k → p j ≡ q j) → latest p k ≡ latest q k
latest_same p q zero h = refl
latest_same p q (suc k) h = λ t. cond (h k (omega arith) t) (suc k) (latest_same p q k (λ j l. h j (omega arith)) t)

-- it is at most k; those from it on do not pass; and it itself does
pub latest_le : (p : ℕ → Bool) (k : ℕ) → latest p k ≤ k
latest_le p zero = omega arith
latest_le p (suc k) = elim (cases_Bool (p k)) [
  | inl e ↦ omega (arith, cond-true (p k) (suc k) (latest p k) e)
  | inr e ↦ omega (arith, cond-false (p k) (suc k) (latest p k) e, latest_le p k)
]

pub latest_past : (p : ℕ → Bool) (k j : ℕ) → latest p k ≤ j → j < k → p j ≡ false
latest_past p zero j a b = absurd (omega arith)
latest_past p (suc k) j a b = elim (cases_Bool (p k)) [
  | inl e ↦ absurd (omega (arith, cond-true (p k) (suc k) (latest p k) e))
  | inr e ↦ elim (cases_eq j k) [
    | inl q ↦ ap p q ∙ e
    | inr q ↦ latest_past p k j (omega (arith, cond-false (p k) (suc k) (latest p k) e)) (omega arith)
  ]
]

pub latest_passes : (p : ℕ → Bool) (k j : ℕ) → latest p k ≡ suc j → p j ≡ true
latest_passes p zero j a = absurd (omega arith)
latest_passes p (suc k) j a = elim (cases_Bool (p k)) [
  | inl e ↦ let q : j ≡ k = omega (arith, cond-true (p k) (suc k) (latest p k) e) in ap p q ∙ e
  | inr e ↦ latest_passes p k j (sym (cond-false (p k) (suc k) (latest p k) e) ∙ a)
]

pub degree_push : (es : List Triple) (t : Triple) (v : ℕ) → degree (es ++ t ∷ []) v ≡ degree es v + one (touches v t)
degree_push [] t v = omega arith
degree_push (e ∷ es) t v = omega (arith, degree_push es t v)

pub degree_le : (es : List Triple) (v : ℕ) → degree es v ≤ length es
degree_le [] v = omega arith
degree_le (e ∷ es) v = omega (arith, degree_le es v, one_le (touches v e))

or_false : (x y : Bool) → y ≡ false → (x || y) ≡ x
or_false true y h = refl
or_false false y h = h

-- at a vertex of the lower half only first vertices count, and at one of the upper half second ones
pub touches_low : (r v : ℕ) (e : Triple) → Halves r e → v < r → touches v e ≡ eqb v e.h1
touches_low r v e h l = or_false (eqb v e.h1) (eqb v e.h2) (ne_eqb v e.h2 (λ q. omega (arith, h.high)))

pub touches_high : (r v : ℕ) (e : Triple) → Halves r e → r ≤ v → touches v e ≡ eqb v e.h2
touches_high r v e h l = ap (λ x. x || eqb v e.h2) (ne_eqb v e.h1 (λ q. omega (arith, h.low)))

module _ (es : List Triple) (t : Triple) where
  pub old_at : (j : ℕ) → j < length es → get_or (es ++ t ∷ []) j nil ≡ get_or es j nil
  old_at j l = get_or_append_left es (t ∷ []) nil j l

  pub head_more : (v : ℕ) → latest (at_vertex (es ++ t ∷ []) v) (length (es ++ t ∷ [])) ≡ cond (touches v t) (suc (length es)) (latest (at_vertex es v) (length es))
  head_more v =
      ap (latest (at_vertex (es ++ t ∷ []) v)) (length_push es t ∙ add-one (length es)) ∙
      (λ k. cond (touches v (get_or_push es t nil (length es) refl k)) (suc (length es)) (latest_same (at_vertex (es ++ t ∷ []) v) (at_vertex es v) (length es) (λ j l. ap (touches v) (old_at j l)) k))

  pub link1_more : (i : ℕ) → i < length es → latest (same1 (es ++ t ∷ []) i) i ≡ latest (same1 es i) i
  link1_more i l = latest_same (same1 (es ++ t ∷ []) i) (same1 es i) i (λ j m. λ k. eqb (old_at i l k).h1 (old_at j (omega arith) k).h1)

  pub link2_more : (i : ℕ) → i < length es → latest (same2 (es ++ t ∷ []) i) i ≡ latest (same2 es i) i
  link2_more i l = latest_same (same2 (es ++ t ∷ []) i) (same2 es i) i (λ j m. λ k. eqb (old_at i l k).h2 (old_at j (omega arith) k).h2)

  -- what stands before an edge at its first vertex, and at its second
  module _ (r : ℕ) (h : AllByRecursion (Halves r) es) (ht : Halves r t) where
    pub link1_new : latest (at_vertex es t.h1) (length es) ≡ latest (same1 (es ++ t ∷ []) (length es)) (length es)
    link1_new = latest_same (at_vertex es t.h1) (same1 (es ++ t ∷ []) (length es)) (length es)
        (λ j l. touches_low r t.h1 (get_or es j nil) (All-get_or (Halves r) es j nil l h) ht.low ∙ sym (λ k. eqb (get_or_push es t nil (length es) refl k).h1 (old_at j l k).h1))

    pub link2_new : latest (at_vertex es t.h2) (length es) ≡ latest (same2 (es ++ t ∷ []) (length es)) (length es)
    link2_new = latest_same (at_vertex es t.h2) (same2 (es ++ t ∷ []) (length es)) (length es)
        (λ j l. touches_high r t.h2 (get_or es j nil) (All-get_or (Halves r) es j nil l h) ht.high ∙ sym (λ k. eqb (get_or_push es t nil (length es) refl k).h2 (old_at j l k).h2))
