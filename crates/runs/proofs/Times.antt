-- How often a number stands in a list, and the pigeonhole: n different numbers below n are each of them once.
use Rattle.std.proofs.Common.{◌≡◌, ℕ, zero, suc, ◌+◌, ◌<◌, ◌≤◌, Bool, true, false, cond, eqb, List, [], ◌∷◌, ◌++◌, length, refl, ap, ◌∙◌, inl, inr, arith}
use Rattle.std.specs.List.{AllByRecursion}
use Rattle.std.proofs.lemmas.Bool.{eq-eqb, ne_eqb, cases_Bool, cases_eq, or_cases, or_parts, both_ways}
use Rattle.runs.specs.Lists.{among}

abbrev pub one : Bool → ℕ
one b = cond b 1 0

pub one_le : (b : Bool) → one b ≤ 1
one_le true = omega arith
one_le false = omega arith

abbrev pub times : ℕ → List ℕ → ℕ
times s [] = 0
times s (x ∷ xs) = one (eqb s x) + times s xs

-- each number at most once
abbrev pub Apart : List ℕ → Type 0
Apart xs = (s : ℕ) → times s xs ≤ 1

pub one_true : (b : Bool) → b ≡ true → one b ≡ 1
one_true b h = ap one h

pub one_false : (b : Bool) → b ≡ false → one b ≡ 0
one_false b h = ap one h

pub times_append : (s : ℕ) (xs ys : List ℕ) → times s (xs ++ ys) ≡ times s xs + times s ys
times_append s [] ys = omega arith
times_append s (x ∷ xs) ys = omega (arith, times_append s xs ys)

pub times_among : (s : ℕ) (xs : List ℕ) → among s xs ≡ true → 1 ≤ times s xs
times_among s [] h = absurd (both_ways false refl h)
times_among s (x ∷ xs) h = elim (or_cases (eqb s x) (among s xs) h) [
  | inl e ↦ omega (arith, one_true (eqb s x) e)
  | inr e ↦ omega (arith, times_among s xs e)
]

pub times_not_among : (s : ℕ) (xs : List ℕ) → among s xs ≡ false → times s xs ≡ 0
times_not_among s [] h = refl
times_not_among s (x ∷ xs) h =
    let p = or_parts (eqb s x) (among s xs) h in
    omega (arith, one_false (eqb s x) p.0, times_not_among s xs p.1)

pub among_times : (s : ℕ) (xs : List ℕ) → 1 ≤ times s xs → among s xs ≡ true
among_times s xs h = elim (cases_Bool (among s xs)) [
  | inl e ↦ e
  | inr e ↦ absurd (omega (arith, times_not_among s xs e))
]

pub not_among_times : (s : ℕ) (xs : List ℕ) → times s xs ≡ 0 → among s xs ≡ false
not_among_times s xs h = elim (cases_Bool (among s xs)) [
  | inl e ↦ absurd (omega (arith, times_among s xs e))
  | inr e ↦ e
]

-- the numbers below n, how often they all stand in a list
abbrev pub tally : ℕ → List ℕ → ℕ
tally zero xs = 0
tally (suc n) xs = times n xs + tally n xs

tally_nil : (n : ℕ) → tally n [] ≡ 0
tally_nil zero = refl
tally_nil (suc n) = omega (arith, tally_nil n)

tally_past : (n x : ℕ) (xs : List ℕ) → n ≤ x → tally n (x ∷ xs) ≡ tally n xs
tally_past zero x xs h = refl
tally_past (suc n) x xs h = omega (arith, one_false (eqb n x) (ne_eqb n x (λ e. omega arith)), tally_past n x xs (omega arith))

tally_below : (n x : ℕ) (xs : List ℕ) → x < n → tally n (x ∷ xs) ≡ 1 + tally n xs
tally_below zero x xs h = absurd (omega arith)
tally_below (suc n) x xs h = elim (cases_eq n x) [
  | inl e ↦ omega (arith, one_true (eqb n x) (eq-eqb n x e), tally_past n x xs (omega arith))
  | inr e ↦ omega (arith, one_false (eqb n x) (ne_eqb n x e), tally_below n x xs (omega arith))
]

pub tally_all : (n : ℕ) (xs : List ℕ) → AllByRecursion (λ x. x < n) xs → tally n xs ≡ length xs
tally_all n [] h = tally_nil n
tally_all n (x ∷ xs) h = omega (arith, tally_below n x xs h.0, tally_all n xs h.1)

pub tally_le : (n : ℕ) (xs : List ℕ) → Apart xs → tally n xs ≤ n
tally_le zero xs h = omega arith
tally_le (suc n) xs h = omega (arith, h n, tally_le n xs h)

tally_full : (n : ℕ) (xs : List ℕ) → Apart xs → tally n xs ≡ n → (s : ℕ) → s < n → times s xs ≡ 1
tally_full zero xs h t s l = absurd (omega arith)
tally_full (suc n) xs h t s l = elim (cases_eq s n) [
  | inl e ↦ ap (λ m. times m xs) e ∙ omega (arith, h n, tally_le n xs h)
  | inr e ↦ tally_full n xs h (omega (arith, h n, tally_le n xs h)) s (omega arith)
]

pub each_once : (n : ℕ) (xs : List ℕ) → length xs ≡ n → AllByRecursion (λ x. x < n) xs → Apart xs → (s : ℕ) → s < n → times s xs ≡ 1
each_once n xs e low apart s l = tally_full n xs apart (tally_all n xs low ∙ e) s l
