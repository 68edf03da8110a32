-- What a comparison byte by byte says of `bytes_eq`, and one row after the other of `has`.
use Rattle.std.proofs.Common.{◌≡◌, ℕ, zero, suc, ◌+◌, ◌<◌, Bool, true, ◌||◌, eqb, List, [], ◌∷◌, map, length, get_or, sym, refl, ap, ◌∙◌, subst, inl, inr, add-one, arith}
use Rattle.std.specs.Str.{bytes_eq}
use Rattle.std.specs.List.{list_all, list_any, range_with_len}
use Rattle.std.proofs.lemmas.Slice.Eq.{bytes_eq-Decides}
use Rattle.std.proofs.lemmas.List.{ext_get_or}
use Rattle.std.proofs.lemmas.List.Folds.{list_all_at}
use Rattle.std.proofs.lemmas.List.FromFn.{length-range_with_len, get_or-range_with_len}
use Rattle.std.proofs.lemmas.Bool.{cases_Bool, both_ways, and_from, eqb-true, eq-eqb}
use Rattle.runs.specs.Lists.{has}
use Rattle.pressing.proofs.Room.{same_test}

itself : (f : ℕ → ℕ) (a n : ℕ) → list_all (λ i. eqb (f i) (f i)) (range_with_len a n) ≡ true
itself f a zero = refl
itself f a (suc n) = and_from (eqb (f a) (f a)) (list_all (λ i. eqb (f i) (f i)) (range_with_len (a + 1) n)) (eq-eqb (f a) (f a) refl) (itself f (a + 1) n)

-- each of the numbers below n passes
below : (test : ℕ → Bool) (n i : ℕ) → list_all test (range_with_len 0 n) ≡ true → i < n → test i ≡ true
below test n i t b = elim (cases_Bool (test i)) [
  | inl s ↦ s
  | inr f ↦
      let there : get_or (range_with_len 0 n) i 0 ≡ i = omega (arith, get_or-range_with_len 0 n i 0 b) in
      absurd (both_ways (list_all test (range_with_len 0 n)) (list_all_at test (range_with_len 0 n) i 0 (omega (arith, length-range_with_len 0 n)) (ap test there ∙ f)) t)
]

module _ (xs ys : List ℕ) where
  -- whether they have the same byte at a place
  abbrev pub same_at : ℕ → Bool
  same_at i = eqb (get_or (0 ∷ xs) (i + 1) 0) (get_or (0 ∷ ys) (i + 1) 0)

  pub compared : {n : ℕ} → n ≡ length xs → n ≡ length ys → list_all same_at (range_with_len 0 n) ≡ bytes_eq xs ys
  compared {n} p q = same_test (list_all same_at (range_with_len 0 n)) (bytes_eq xs ys)
      (λ t. (bytes_eq-Decides xs ys).1 (ext_get_or 0 xs ys (sym p ∙ q)
      (λ i b. let s = eqb-true (get_or (0 ∷ xs) (i + 1) 0) (get_or (0 ∷ ys) (i + 1) 0) (below same_at n i t (omega arith)) in rw add-one at s)))
      (λ t.
      subst (λ (zs : List ℕ). list_all (λ i. eqb (get_or (0 ∷ xs) (i + 1) 0) (get_or (0 ∷ zs) (i + 1) 0)) (range_with_len 0 n) ≡ true) ((bytes_eq-Decides xs ys).0 t)
      (itself (λ i. get_or (0 ∷ xs) (i + 1) 0) 0 n))

-- looked for among what is read of some items
pub any_has : {X : Type 0} (read : X → List ℕ) (s : List ℕ) (xs : List X) → list_any (λ x. bytes_eq s (read x)) xs ≡ has bytes_eq s (map read xs)
any_has read s [] = refl
any_has read s (x ∷ xs) = ap (λ b. bytes_eq s (read x) || b) (any_has read s xs)
