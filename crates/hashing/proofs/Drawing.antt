-- A step of the generator, and the tables as a loop fills them.
use Rattle.std.proofs.Common.{◌≡◌, ℕ, zero, suc, ◌+◌, ◌-◌, ◌*◌, ◌/◌, ◌%◌, ◌<◌, ◌≤◌, List, [], ◌∷◌, ◌++◌, length, get_or, drop, set, sym, refl, ap, ◌∙◌, subst, inl, inr, append_assoc, add-one, arith}
use Rattle.std.proofs.lemmas.Nat.{mod-mul-add, mod_below, div-add-mod'}
use Rattle.std.proofs.lemmas.Bool.{cases_eq}
use Rattle.std.proofs.lemmas.List.{set_at, drop_more, get_or_append_left}
use Rattle.hashing.specs.Generator.{next, drawn, after, tables}

-- the product's two halves, added, are the remainder, or that and the modulus
pub folded_low : (y f : ℕ) → f ≡ y % 2147483648 + y / 2147483648 → f < 2147483647 → f ≡ y % 2147483647
folded_low y f e low =
    let is : y ≡ y / 2147483648 * 2147483647 + f = omega arith in
    sym (ap (λ v. v % 2147483647) is ∙ mod-mul-add (y / 2147483648) 2147483647 f low)

pub folded_high : (y f : ℕ) → y ≤ 16807 * 2147483646 → f ≡ y % 2147483648 + y / 2147483648 → 2147483647 ≤ f → f - 2147483647 ≡ y % 2147483647
folded_high y f high e low =
    let is : y ≡ (y / 2147483648 + 1) * 2147483647 + (f - 2147483647) = omega arith in
    sym (ap (λ v. v % 2147483647) is ∙ mod-mul-add (y / 2147483648 + 1) 2147483647 (f - 2147483647) (omega arith))

-- a multiple of the modulus is not above 0 and below it
no_multiple : (x w z : ℕ) → x + 2147483647 * w ≡ 2147483647 * z → 1 ≤ x → x ≤ 2147483646 → ⊥
no_multiple x w z e low high = omega arith

-- no state is 0, since 16,807 has the inverse 1,407,677,000; and none is above 2,147,483,646
step_low : (x q : ℕ) → 1 ≤ x → x ≤ 2147483646 → 16807 * x ≡ 2147483647 * q → ⊥
step_low x q low high e =
    let scaled : 1407677000 * (16807 * x) ≡ 1407677000 * (2147483647 * q) = ap (λ v. 1407677000 * v) e in
    no_multiple x (11017 * x) (1407677000 * q) (omega (arith, scaled)) low high

pub step_in_range : (x : ℕ) → (1 ≤ x) × (x ≤ 2147483646) → (1 ≤ next x) × (next x ≤ 2147483646)
step_in_range x h =
    let top : next x < 2147483647 = mod_below (16807 * x) 2147483647 (omega arith) in
    let split = div-add-mod' (16807 * x) 2147483647 in
    (elim (cases_eq (next x) 0) [ inl z ↦ absurd (step_low x (16807 * x / 2147483647) h.0 h.1 (omega arith)) | inr z ↦ omega arith ], omega arith)

pub after_in_range : (k x : ℕ) → (1 ≤ x) × (x ≤ 2147483646) → (1 ≤ after k x) × (after k x ≤ 2147483646)
after_in_range zero x h = h
after_in_range (suc k) x h = after_in_range k (next x) (step_in_range x h)

pub length_drawn : (k x : ℕ) → length (drawn k x) ≡ k
length_drawn zero x = refl
length_drawn (suc k) x = ap suc (length_drawn k (next x))

pub get_or_drawn : (k x i : ℕ) → i < k → get_or (drawn k x) i 0 ≡ after (suc i) x
get_or_drawn zero x i h = absurd (omega arith)
get_or_drawn (suc k) x zero h = refl
get_or_drawn (suc k) x (suc i) h = get_or_drawn k (next x) i (omega arith)

pub length_tables : (seed : ℕ) → length (tables seed) ≡ 12288
unfolding tables
length_tables seed = length_drawn 12288 seed

pub get_or_tables : (seed i : ℕ) → i < 12288 → get_or (tables seed) i 0 ≡ after (suc i) seed
unfolding tables
get_or_tables seed i h = get_or_drawn 12288 seed i h

-- a loop over the memory: one number more
after_suc : (k x : ℕ) → after (suc k) x ≡ next (after k x)
after_suc zero x = refl
after_suc (suc k) x = after_suc k (next x)

drawn_suc : (k x : ℕ) → drawn (suc k) x ≡ drawn k x ++ next (after k x) ∷ []
drawn_suc zero x = refl
drawn_suc (suc k) x = ap (λ t. next x ∷ t) (drawn_suc k (next x))

pub after_more : (k x : ℕ) → after (k + 1) x ≡ next (after k x)
after_more k x = rw add-one (after_suc k x)

drawn_more : (k x : ℕ) → drawn (k + 1) x ≡ drawn k x ++ next (after k x) ∷ []
drawn_more k x = rw add-one (drawn_suc k x)

pub filling : (m t : List ℕ) (i x : ℕ) → i < length t → m ≡ drawn i x ++ drop i t → set m i (next (after i x)) ≡ drawn (i + 1) x ++ drop (i + 1) t
filling m t i x h e =
    ap (λ l. set l i (next (after i x))) (e ∙ ap (λ l. drawn i x ++ l) (drop_more t i 0 h)) ∙
    set_at (drawn i x) (get_or t i 0) (drop (i + 1) t) (next (after i x)) i (length_drawn i x) ∙
    sym (append_assoc (drawn i x) (next (after i x) ∷ []) (drop (i + 1) t)) ∙
    ap (λ l. l ++ drop (i + 1) t) (sym (drawn_more i x))

pub tables_in_range : (seed : ℕ) (t : List ℕ) → (1 ≤ seed) × (seed ≤ 2147483646) → (k : ℕ) → k < 12288 → (1 ≤ get_or (tables seed ++ t) k 0) × (get_or (tables seed ++ t) k 0 ≤ 2147483646)
tables_in_range seed t h k l =
    let is : get_or (tables seed ++ t) k 0 ≡ after (suc k) seed = get_or_append_left (tables seed) t 0 k (omega (arith, length_tables seed)) ∙ get_or_tables seed k l in
    subst (λ v. (1 ≤ v) × (v ≤ 2147483646)) (sym is) (after_in_range (suc k) seed h)
