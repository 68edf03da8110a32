-- The sums over a spelling that grows at its end, and the triple that they give.
use Rattle.std.proofs.Common.{◌≡◌, ℕ, suc, ◌+◌, ◌%◌, true, ◌&&◌, leb, List, [], ◌∷◌, ◌++◌, length, Some, None, sym, ap, ◌∙◌, arith}
use Rattle.std.proofs.lemmas.Bool.{and_from, cond-true}
use Rattle.names.specs.Spellings.{in_range}
use Rattle.hashing.specs.Generator.{entry}
use Rattle.hashing.specs.Triples.{sum_from, sum, triple, members, hashed}
use Rattle.hashing.specs.declared.triples.Sums.{Sums}

sum_from-append : (t : List ℕ) (f place : ℕ) (xs : List ℕ) (b : ℕ) → sum_from t f place (xs ++ b ∷ []) ≡ sum_from t f place xs + entry t f (place + length xs) b
sum_from-append t f place [] b = let e : place + 0 ≡ place = omega arith in rw e (omega arith)
sum_from-append t f place (x ∷ xs) b =
    let e : suc place + length xs ≡ place + suc (length xs) = omega arith in
    let same : entry t f (suc place + length xs) b ≡ entry t f (place + suc (length xs)) b = ap (λ k. entry t f k b) e in
    omega (arith, sum_from-append t f (suc place) xs b, same)

-- a function's sum with the number of one more byte
pub sum_pushed : (t : List ℕ) (f : ℕ) (xs : List ℕ) (b places a : ℕ) {o : ℕ} → places ≡ length xs → a ≡ sum t f xs → o ≡ a + entry t f (places + 1) b → o ≡ sum t f (xs ++ b ∷ [])
sum_pushed t f xs b places a p q e =
    let k : places + 1 ≡ 1 + length xs = omega arith in
    e ∙ (λ i. q i + entry t f (k i) b) ∙ sym (sum_from-append t f 1 xs b)

-- the sums over all bytes of a spelling give its triple
pub hashed_so : (t u : List ℕ) (n r : ℕ) (s xs : List ℕ) (a : Sums) {e : ℕ × ℕ × ℕ} → leb 12288 (length t) ≡ true → in_range 1 16 (length s) ≡ true → u ≡ t → xs ≡ s →
    a.s0 ≡ sum u 0 xs → a.s1 ≡ sum u 1 xs → a.s2 ≡ sum u 2 xs → e ≡ (a.s0 % n, a.s1 % r, r + a.s2 % r) → Some e ≡ hashed t n r s
hashed_so t u n r s xs a full few tables all s0 s1 s2 e =
    ap Some e ∙
    (λ i. Some ((s0 ∙ (λ j. sum (tables j) 0 (all j))) i % n, (s1 ∙ (λ j. sum (tables j) 1 (all j))) i % r, r + (s2 ∙ (λ j. sum (tables j) 2 (all j))) i % r)) ∙
    sym (cond-true (leb 12288 (length t) && in_range 1 16 (length s)) (Some (members (triple t n r s))) None (and_from (leb 12288 (length t)) (in_range 1 16 (length s)) full few))
