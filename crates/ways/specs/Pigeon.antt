-- n different numbers below n are all the numbers below n. Assumes nothing.
use Rattle.std.specs.Prelude.{◌≡◌, ℕ, zero, suc, ◌+◌, ◌-◌, ◌<◌, ◌⊎◌, ◌≢◌, refl}
use Rattle.std.proofs.Common.{sym, ◌∙◌, ap, inl, inr, arith}
use Rattle.std.proofs.lemmas.Bool.{cases_eq, cases_lt}

-- on the numbers below c: all below m, and all different
pub record Into (c m : ℕ) (f : ℕ → ℕ) : Type 0 where
  pub low : (j : ℕ) → j < c → f j < m
  pub apart : (j k : ℕ) → j < c → k < c → f j ≡ f k → j ≡ k

-- what is above v comes down by one
pub record Shut (v x y : ℕ) : Type 0 where
  pub low : x < v → y ≡ x
  pub high : v < x → y + 1 ≡ x

shut : (v x : ℕ) → (y : ℕ) × Shut v x y
shut v x = elim (cases_lt v x) [
  | inl h ↦ (x - 1, record { low = λ k. omega arith; high = λ _. omega arith })
  | inr h ↦ (x, record { low = λ _. refl; high = λ k. omega arith })
]

shut_low : (v x y m : ℕ) → Shut v x y → (x ≢ v) → x < suc m → v < suc m → y < m
shut_low v x y m s ne hx hv =
    elim (cases_lt v x) [ inl h ↦ omega (arith, s.high h) | inr h ↦ omega (arith, s.low (omega arith)) ]

shut_apart : (v x y p q : ℕ) → Shut v x y → Shut v p q → (x ≢ v) → (p ≢ v) → y ≡ q → x ≡ p
shut_apart v x y p q s t nx np e =
    elim (cases_lt v x) [
      | inl h ↦ elim (cases_lt v p)
          [ inl k ↦ omega (arith, s.high h, t.high k) | inr k ↦ omega (arith, s.high h, t.low (omega arith)) ]
      | inr h ↦ elim (cases_lt v p)
          [ inl k ↦ omega (arith, s.low (omega arith), t.high k) | inr k ↦ omega (arith, s.low (omega arith), t.low (omega arith)) ]
    ]

-- where v is never met, one number fewer will do
squeeze : (c m v : ℕ) (f : ℕ → ℕ) → v < suc m → ((j : ℕ) → j < c → f j ≢ v) → Into c (suc m) f → Into c m (λ j. (shut v (f j)).0)
squeeze c m v f hv never i = record {
  low = λ j hj. shut_low v (f j) (shut v (f j)).0 m (shut v (f j)).1 (never j hj) (i.low j hj) hv;
  apart = λ j k hj hk e. i.apart j k hj hk
      (shut_apart v (f j) (shut v (f j)).0 (f k) (shut v (f k)).0 (shut v (f j)).1 (shut v (f k)).1 (never j hj) (never k hk) e);
}

-- no function takes the numbers below m + 1 to different numbers below m
pub crowd : (m : ℕ) (f : ℕ → ℕ) → Into (suc m) m f → ⊥
crowd zero f i = let h = i.low 0 (omega arith) in omega arith
crowd (suc m) f i =
    crowd m (λ j. (shut (f (suc m)) (f j)).0)
    (squeeze (suc m) m (f (suc m)) f (i.low (suc m) (omega arith))
    (λ j hj e. let x = i.apart j (suc m) (omega arith) (omega arith) e in omega arith)
    (record { low = λ j hj. i.low j (omega arith); apart = λ j k hj hk e. i.apart j k (omega arith) (omega arith) e }))

-- v is met below c, or nowhere there
pub met : (f : ℕ → ℕ) (v c : ℕ) → ((j : ℕ) × (j < c) × (f j ≡ v)) ⊎ ((j : ℕ) → j < c → f j ≢ v)
met f v zero = inr (λ j h e. omega arith)
met f v (suc c) =
    elim (met f v c) [
      | inl h ↦ inl (h.0, omega (arith, h.1), h.2)
      | inr no_earlier ↦ elim (cases_eq (f c) v) [
        | inl e ↦ inl (c, omega arith, e)
        | inr ne ↦ inr (λ j h e. elim (cases_eq j c) [ inl s ↦ ne (ap f (sym s) ∙ e) | inr s ↦ no_earlier j (omega arith) e ])
      ]
    ]

-- different numbers below n, n of them, are all the numbers below n
pub onto : (n : ℕ) (f : ℕ → ℕ) → Into n n f → (v : ℕ) → v < n → (j : ℕ) × (j < n) × (f j ≡ v)
onto zero f i v hv = absurd (omega arith)
onto (suc m) f i v hv =
    elim (met f v (suc m)) [
      | inl h ↦ h
      | inr never ↦ absurd (crowd m (λ j. (shut v (f j)).0) (squeeze (suc m) m v f hv never i))
    ]
