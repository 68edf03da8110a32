-- Marks in an array, one for each number met: every number met is marked, and nothing else. Assumes nothing.
use Rattle.std.proofs.Common.{◌≡◌, ℕ, zero, suc, ◌+◌, ◌<◌, Bool, true, false, List, length, get_or, set, replicate, sym, refl, ap, ◌∙◌, inl, inr, arith}
use Rattle.std.proofs.lemmas.List.{get_or-set_same, get_or-set_other}
use Rattle.std.proofs.lemmas.Bool.{cases_eq, both_ways}

-- the numbers f 0 to f (i - 1) are different, and the marks are at those and at no others
pub record Marked (f : ℕ → ℕ) (i : ℕ) (marks : List Bool) : Type 0 where
  pub all : (j : ℕ) → j < i → get_or marks (f j) false ≡ true
  pub only : (v : ℕ) → get_or marks v false ≡ true → (j : ℕ) × (j < i) × (f j ≡ v)
  pub apart : (j k : ℕ) → (j < k) × (k < i) × (f j ≡ f k) → ⊥

unmarked : (n v : ℕ) → get_or (replicate n false) v false ≡ false
unmarked zero v = refl
unmarked (suc n) zero = refl
unmarked (suc n) (suc v) = unmarked n v

pub marked_none : (f : ℕ → ℕ) (n : ℕ) → Marked f 0 (replicate n false)
marked_none f n = record {
  all = λ j h. absurd (omega arith);
  only = λ v h. absurd (both_ways (get_or (replicate n false) v false) (unmarked n v) h);
  apart = λ j k h. let m = h.1 in omega arith;
}

module _ (f : ℕ → ℕ) (i : ℕ) (marks : List Bool) (h : Marked f i marks) where
  all_more : f i < length marks → (k : ℕ) → k < i + 1 → get_or (set marks (f i) true) (f k) false ≡ true
  all_more l k hk =
      elim (cases_eq (f k) (f i)) [
        | inl e ↦ ap (λ p. get_or (set marks (f i) true) p false) e ∙ get_or-set_same marks (f i) true false l
        | inr ne ↦ get_or-set_other marks (f i) (f k) true false ne
            ∙ elim (cases_eq k i) [ inl s ↦ absurd (ne (ap f s)) | inr s ↦ h.all k (omega arith) ]
      ]

  only_more : (v : ℕ) → get_or (set marks (f i) true) v false ≡ true → (j : ℕ) × (j < i + 1) × (f j ≡ v)
  only_more v t =
      elim (cases_eq v (f i)) [
        | inl e ↦ (i, omega arith, sym e)
        | inr ne ↦ let b = h.only v (sym (get_or-set_other marks (f i) v true false ne) ∙ t) in (b.0, omega (arith, b.1), b.2)
      ]

  apart_more : get_or marks (f i) false ≡ false → (j k : ℕ) → (j < k) × (k < i + 1) × (f j ≡ f k) → ⊥
  apart_more new j k t =
      let lt = t.0 in let below = t.1 in
      elim (cases_eq k i) [
        | inl e ↦ both_ways (get_or marks (f i) false) new
            (ap (λ p. get_or marks p false) (sym (t.2 ∙ ap f e)) ∙ h.all j (omega arith))
        | inr ne ↦ h.apart j k (lt, omega arith, t.2)
      ]

  pub marked_more : f i < length marks → get_or marks (f i) false ≡ false → Marked f (i + 1) (set marks (f i) true)
  marked_more l new = record { all = all_more l; only = only_more; apart = apart_more new }
