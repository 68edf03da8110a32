-- One write after the other.
use Rattle.std.proofs.Common.{◌≡◌, ℕ, ◌+◌, ◌-◌, ◌<◌, ◌≤◌, List, [], ◌∷◌, ◌++◌, length, take, drop, set, sym, refl, ap, ◌∙◌, inl, inr, append_assoc, add-one, arith, length-append, length-drop}
use Rattle.std.proofs.lemmas.List.{set_split, take_at, drop_at, drop-drop, drop-take, length-take-le, take-append-le, take-take, take-append-drop}
use Rattle.fields.specs.Writing.{written, Shows, Spares}

pub set_written : (d : List ℕ) (at b : ℕ) → at < length d → set d at b ≡ written at (b ∷ []) d
set_written d at b h = set_split d at b h ∙ ap (λ k. take at d ++ b ∷ drop k d) (sym (add-one at))

pub length_written : (at : ℕ) (xs d : List ℕ) → at + length xs ≤ length d → length (written at xs d) ≡ length d
length_written at xs d h =
    omega (arith, length-append (take at d) (xs ++ drop (at + length xs) d), length-append xs (drop (at + length xs) d), length-drop (at + length xs) d, length-take-le at d (omega arith))

-- what lies behind a front of known length
drop_past : (k m : ℕ) (xs ys : List ℕ) → length xs ≡ k → drop (k + m) (xs ++ ys) ≡ drop m ys
drop_past k m xs ys e = sym (drop-drop m k (xs ++ ys)) ∙ ap (drop m) (drop_at xs ys k e)

written_next : (at to : ℕ) (xs ys d : List ℕ) → at + length xs ≡ to → to + length ys ≤ length d → written to ys (written at xs d) ≡ written at (xs ++ ys) d
written_next at to xs ys d e h =
    let t = take at d in
    let r = drop (at + length xs) d in
    let l : length t ≡ at = length-take-le at d (omega arith) in
    let lx : length (t ++ xs) ≡ to = omega (arith, length-append t xs) in
    let front : take to (written at xs d) ≡ t ++ xs = ap (take to) (sym (append_assoc t xs r)) ∙ take_at (t ++ xs) r to lx in
    let q : at + length xs + length ys ≡ at + length (xs ++ ys) = omega (arith, length-append xs ys) in
    let back : drop (to + length ys) (written at xs d) ≡ drop (at + length (xs ++ ys)) d =
    ap (drop (to + length ys)) (sym (append_assoc t xs r)) ∙ drop_past to (length ys) (t ++ xs) r lx ∙ drop-drop (length ys) (at + length xs) d ∙ ap (λ k. drop k d) q in
    (λ i. front i ++ (ys ++ back i)) ∙ append_assoc t xs (ys ++ drop (at + length (xs ++ ys)) d) ∙
    ap (λ x. t ++ x) (sym (append_assoc xs ys (drop (at + length (xs ++ ys)) d)))

-- a second write right behind the first
pub then : {m m' : List ℕ} (at to : ℕ) (xs ys d : List ℕ) → m ≡ written at xs d → m' ≡ written to ys m → at + length xs ≡ to → to + length ys ≤ length d → m' ≡ written at (xs ++ ys) d
then at to xs ys d p q e h = q ∙ ap (written to ys) p ∙ written_next at to xs ys d e h

pub then_set : {m : List ℕ} (at to b : ℕ) (xs d : List ℕ) → m ≡ written at xs d → at + length xs ≡ to → to < length d → set m to b ≡ written at (xs ++ b ∷ []) d
then_set at to b xs d p e h =
    ap (λ x. set x to b) p ∙ set_written (written at xs d) to b (omega (arith, length_written at xs d (omega arith))) ∙ written_next at to xs (b ∷ []) d e (omega arith)

pub written_none : (at : ℕ) (d : List ℕ) → d ≡ written at [] d
written_none at d = let e : at ≡ at + 0 = omega arith in sym (take-append-drop at d) ∙ ap (λ k. take at d ++ drop k d) e

pub shows : Shows
shows at xs d h =
    ap (take (length xs)) (drop_at (take at d) (xs ++ drop (at + length xs) d) at (length-take-le at d (omega arith))) ∙ take_at xs (drop (at + length xs) d) (length xs) refl

take_kept : (m at : ℕ) (xs d : List ℕ) → m ≤ at → at ≤ length d → take m (written at xs d) ≡ take m d
take_kept m at xs d h l =
    take-append-le m (take at d) (xs ++ drop (at + length xs) d) (omega (arith, length-take-le at d l)) ∙ take-take m at d h

pub drop_kept : (a at : ℕ) (xs d : List ℕ) → at + length xs ≤ a → at + length xs ≤ length d → drop a (written at xs d) ≡ drop a d
drop_kept a at xs d h l =
    let to = at + length xs in
    let e : a ≡ to + (a - to) = omega arith in
    let f = take at d ++ xs in
    let n : length f ≡ to = omega (arith, length-append (take at d) xs, length-take-le at d (omega arith)) in
    ap (drop a) (sym (append_assoc (take at d) xs (drop to d))) ∙ ap (λ k. drop k (f ++ drop to d)) e ∙
    drop_past to (a - to) f (drop to d) n ∙ drop-drop (a - to) to d ∙ ap (λ k. drop k d) (sym e)

pub spares : Spares
spares at a k xs d h (inl b) = sym (drop-take a k (written at xs d)) ∙ ap (drop a) (take_kept (a + k) at xs d b (omega arith)) ∙ drop-take a k d
spares at a k xs d h (inr b) = ap (take k) (drop_kept a at xs d b h)
