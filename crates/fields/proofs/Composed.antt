-- Parts that compose to the string of a plate.
use Rattle.std.proofs.Common.{◌≡◌, ℕ, ◌+◌, ◌*◌, ◌<◌, List, [], ◌∷◌, ◌++◌, map, length, get_or, take, drop, sym, refl, ap, ◌∙◌, append_assoc, arith, length-append}
use Rattle.std.proofs.lemmas.List.{take_at, drop_all, take-append-drop, append-nil}
use Rattle.runs.specs.Plates.{Plate, two, concat, record_field}
use Rattle.fields.specs.Writing.{part}
use Rattle.fields.specs.Parts.{header, values_head, value_place, no_entry, front, Composes}
use Rattle.fields.proofs.Cuts.{cut, chunks}

pub composes : Composes
composes kind p s l first recs =
    let n = length p.records in
    let at = 21 + 4 * p.r in
    let each : (i : ℕ) → i < n → drop (at + 22 * i) s ≡ record_field (get_or p.records i no_entry) ++ drop (at + 22 * (i + 1)) s =
    λ i h. let e : at + 22 * i + 22 ≡ at + 22 * (i + 1) = omega arith in
    cut (at + 22 * i) 22 s ∙ (λ j. recs i h j ++ drop (e j) s) in
    let back : drop at s ≡ concat (map record_field p.records) =
    chunks record_field 22 at p.records no_entry s each ∙
    ap (λ x. concat (map record_field p.records) ++ x) (drop_all (at + 22 * n) s (omega arith)) ∙ append-nil _ in
    sym (take-append-drop at s) ∙ (λ i. first i ++ back i)

pub length_twos : (vs : List ℕ) → length (concat (map two vs)) ≡ 2 * length vs
length_twos [] = refl
length_twos (v ∷ vs) = let h = length_twos vs in omega arith

-- the front is whole once header, head and each value are at their places
pub front_composes : (kind : ℕ) (p : Plate) (s : List ℕ) → length p.values ≡ 2 * p.r →
    part 0 18 s ≡ header kind (length p.records) p.r p.seed → part 18 3 s ≡ values_head p.r →
    ((k : ℕ) → k < 2 * p.r → part (value_place k) 2 s ≡ two (get_or p.values k 0)) →
    part 0 (21 + 4 * p.r) s ≡ front kind p
front_composes kind p s count first second each =
    let vs = concat (map two p.values) in
    let h = header kind (length p.records) p.r p.seed in
    let long : length vs ≡ 4 * p.r = omega (arith, length_twos p.values) in
    let rest = drop (21 + 2 * length p.values) s in
    let row : (i : ℕ) → i < length p.values → drop (21 + 2 * i) s ≡ two (get_or p.values i 0) ++ drop (21 + 2 * (i + 1)) s =
    λ i l. let e : 21 + 2 * i + 2 ≡ 21 + 2 * (i + 1) = omega arith in
    cut (21 + 2 * i) 2 s ∙ (λ j. each i (omega arith) j ++ drop (e j) s) in
    let third : drop 21 s ≡ vs ++ rest = chunks two 2 21 p.values 0 s row in
    let head : values_head p.r ≡ 4 ∷ two (length vs) = ap (λ k. 4 ∷ two k) (sym long) in
    let all : s ≡ (h ++ ((4 ∷ two (length vs)) ++ vs)) ++ rest =
    cut 0 18 s ∙ (λ i. first i ++ (cut 18 3 s ∙ (λ j. (second ∙ head) j ++ third j)) i) ∙
    ap (λ x. h ++ x) (sym (append_assoc (4 ∷ two (length vs)) vs rest)) ∙
    sym (append_assoc h ((4 ∷ two (length vs)) ++ vs) rest) in
    ap (take (21 + 4 * p.r)) all ∙ take_at (h ++ ((4 ∷ two (length vs)) ++ vs)) rest (21 + 4 * p.r) (omega (arith, length-append h ((4 ∷ two (length vs)) ++ vs)))
