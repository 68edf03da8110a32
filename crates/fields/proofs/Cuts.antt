-- A string cut into parts.
use Rattle.std.proofs.Common.{◌≡◌, ℕ, zero, suc, ◌+◌, ◌-◌, ◌*◌, ◌<◌, ◌≤◌, List, ◌++◌, map, length, get_or, take, drop, sym, refl, ap, ◌∙◌, append_assoc, arith}
use Rattle.std.specs.List.{range_with_len}
use Rattle.std.proofs.lemmas.List.FromFn.{fill_by_all}
use Rattle.std.proofs.lemmas.List.{drop-drop, drop-take, take-take, take-append-drop}
use Rattle.runs.specs.Plates.{concat}
use Rattle.fields.specs.Writing.{part}

-- a part, then the rest
pub cut : (at len : ℕ) (s : List ℕ) → drop at s ≡ part at len s ++ drop (at + len) s
cut at len s = sym (take-append-drop len (drop at s)) ∙ ap (λ l. part at len s ++ l) (drop-drop len at s)

-- a part of the first so many bytes
pub part_take : (a k m : ℕ) (s : List ℕ) → a + k ≤ m → part a k (take m s) ≡ part a k s
part_take a k m s h =
    let e : m ≡ a + (m - a) = omega arith in
    ap (λ j. part a k (take j s)) e ∙ ap (take k) (drop-take a (m - a) s) ∙ take-take k (m - a) (drop a s) (omega arith)

counted : {X : Type 0} (f : X → List ℕ) (g : ℕ → X) (w at : ℕ) (s : List ℕ) (a k : ℕ) →
    ((i : ℕ) → a ≤ i → i < a + k → drop (at + w * i) s ≡ f (g i) ++ drop (at + w * (i + 1)) s) →
    drop (at + w * a) s ≡ concat (map f (map g (range_with_len a k))) ++ drop (at + w * (a + k)) s
counted f g w at s a zero h = let e : a ≡ a + 0 = omega arith in ap (λ j. drop (at + w * j) s) e
counted f g w at s a (suc k) h =
    let e : a + 1 + k ≡ a + suc k = omega arith in
    h a (omega arith) (omega arith) ∙
    ap (λ l. f (g a) ++ l) (counted f g w at s (a + 1) k (λ i l m. h i (omega arith) (omega arith)) ∙ ap (λ j. concat (map f (map g (range_with_len (a + 1) k))) ++ drop (at + w * j) s) e) ∙
    sym (append_assoc (f (g a)) (concat (map f (map g (range_with_len (a + 1) k)))) (drop (at + w * (a + suc k)) s))

-- bytes of one width for each element of a list, each at its place
pub chunks : {X : Type 0} (f : X → List ℕ) (w at : ℕ) (xs : List X) (d : X) (s : List ℕ) →
    ((i : ℕ) → i < length xs → drop (at + w * i) s ≡ f (get_or xs i d) ++ drop (at + w * (i + 1)) s) →
    drop at s ≡ concat (map f xs) ++ drop (at + w * length xs) s
chunks f w at xs d s h =
    let n = length xs in
    let g = λ (i : ℕ). get_or xs i d in
    let same : xs ≡ map g (range_with_len 0 n) = fill_by_all g xs n d refl (λ k l. refl) in
    let z : at ≡ at + w * 0 = omega arith in
    let o : 0 + n ≡ n = omega arith in
    ap (λ k. drop k s) z ∙ counted f g w at s 0 n (λ i a l. h i (omega arith)) ∙
    (λ i. concat (map f (sym same i)) ++ drop (at + w * o i) s)
