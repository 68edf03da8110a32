-- Tests that nothing stands twice, and what they tell.
use Rattle.std.proofs.Common.{◌≡◌, ℕ, zero, suc, ◌<◌, Bool, true, false, ◌&&◌, eqb, List, [], ◌∷◌, ◌++◌, length, get_or, sym, refl, ap, ◌∙◌, inl, inr, arith}
use Rattle.std.proofs.lemmas.Bool.{eqb-true, eq-eqb, and_parts, and_from, or_parts, both_ways, cases_eq}
use Rattle.std.proofs.lemmas.List.{length_push, get_or_push, get_or_append_left}
use Rattle.hashing.specs.Triples.{Triple}
use Rattle.std.specs.Str.{bytes_eq}
use Rattle.runs.specs.Lists.{has, repeats, Distinct}
use Rattle.runs.specs.Runs.{same_triple}

pub same_true : (xs ys : List ℕ) → bytes_eq xs ys ≡ true → xs ≡ ys
same_true [] [] h = refl
same_true [] (y ∷ ys) h = absurd (both_ways false refl h)
same_true (x ∷ xs) [] h = absurd (both_ways false refl h)
same_true (x ∷ xs) (y ∷ ys) h =
    let p = and_parts (eqb x y) (bytes_eq xs ys) h in
    let a = eqb-true x y p.0 in
    let b = same_true xs ys p.1 in
    λ i. a i ∷ b i

pub same_refl : (xs : List ℕ) → bytes_eq xs xs ≡ true
same_refl [] = refl
same_refl (x ∷ xs) = and_from (eqb x x) (bytes_eq xs xs) (eq-eqb x x refl) (same_refl xs)

pub triple_refl : (e : Triple) → same_triple e e ≡ true
triple_refl e =
    and_from (eqb e.h0 e.h0) (eqb e.h1 e.h1 && eqb e.h2 e.h2) (eq-eqb e.h0 e.h0 refl)
    (and_from (eqb e.h1 e.h1) (eqb e.h2 e.h2) (eq-eqb e.h1 e.h1 refl) (eq-eqb e.h2 e.h2 refl))

module _ {X : Type 0} (same : X → X → Bool) (same_self : (x : X) → same x x ≡ true) (d : X) where
  -- what a list does not have stands at none of its places
  pub has_false : (x : X) (ys : List X) → has same x ys ≡ false → (i : ℕ) → i < length ys → get_or ys i d ≡ x → ⊥
  has_false x [] h i l e = omega arith
  has_false x (y ∷ ys) h zero l e =
      both_ways (same x y) (or_parts (same x y) (has same x ys) h).0 (ap (same x) e ∙ same_self x)
  has_false x (y ∷ ys) h (suc i) l e = has_false x ys (or_parts (same x y) (has same x ys) h).1 i (omega arith) e

  pub repeats_false : (xs : List X) → repeats same xs ≡ false → Distinct d xs
  repeats_false [] h i j a b e = omega arith
  repeats_false (x ∷ xs) h zero zero a b e = omega arith
  repeats_false (x ∷ xs) h zero (suc j) a b e =
      has_false x xs (or_parts (has same x xs) (repeats same xs) h).0 j (omega arith) (sym e)
  repeats_false (x ∷ xs) h (suc i) zero a b e = omega arith
  repeats_false (x ∷ xs) h (suc i) (suc j) a b e =
      repeats_false xs (or_parts (has same x xs) (repeats same xs) h).1 i j (omega arith) (omega arith) e

pub distinct_push : {X : Type 0} (d : X) (xs : List X) (x : X) → Distinct d xs → ((i : ℕ) → i < length xs → get_or xs i d ≡ x → ⊥) → Distinct d (xs ++ x ∷ [])
distinct_push d xs x h new i j a b e = elim (cases_eq j (length xs)) [
  | inl q ↦ let l : i < length xs = omega arith in new i l (sym (get_or_append_left xs (x ∷ []) d i l) ∙ e ∙ get_or_push xs x d j (sym q))
  | inr q ↦
      let l : j < length xs = omega (arith, length_push xs x) in
      let k : i < length xs = omega arith in
      h i j a l (sym (get_or_append_left xs (x ∷ []) d i k) ∙ e ∙ get_or_append_left xs (x ∷ []) d j l)
]
