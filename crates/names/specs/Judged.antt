-- Which bytes the two kinds judge yes, as proofs of the laws that kinds keep.
use Rattle.std.specs.Prelude.{◌≡◌, ℕ, zero, suc, ◌-◌, ◌/◌, ◌%◌, ◌<◌, ◌≤◌, true, eqb, leb, List, [], ◌∷◌, ◌++◌, length, get_or, take, replicate, refl}
use Rattle.std.proofs.Common.{sym, ap, ◌∙◌, arith}
use Rattle.std.proofs.lemmas.Bool.{and_parts, and_from, leb-true, le-leb, eqb-true, eq-eqb}
use Rattle.std.proofs.lemmas.List.{take_at, length-append, length-replicate}
use Rattle.names.specs.Spellings.{Bytes, two_at, in_range}
use Rattle.names.specs.Points.{all_visible, point_judged}
use Rattle.names.specs.Cells.{is_cell, cell_spelling, cell_judged}

-- a number in a range
pub ranged : (low high x : ℕ) → in_range low high x ≡ true → (low ≤ x) × (x ≤ high)
ranged low high x e = let p = and_parts (leb low x) (leb x high) e in (leb-true low x p.0, leb-true x high p.1)

pub in_range_yes : (low high x : ℕ) → low ≤ x → x ≤ high → in_range low high x ≡ true
in_range_yes low high x a b = and_from (leb low x) (leb x high) (le-leb low x a) (le-leb x high b)

-- what is visible is a byte
pub visible_low : (s : List ℕ) → all_visible s ≡ true → (k : ℕ) → get_or s k 0 < 256
visible_low [] e k = omega arith
visible_low (b ∷ bs) e zero = omega (arith, ranged 33 126 b (and_parts (in_range 33 126 b) (all_visible bs) e).0)
visible_low (b ∷ bs) e (suc k) = visible_low bs (and_parts (in_range 33 126 b) (all_visible bs) e).1 k

-- bytes that are judged yes, with zeros after them, are those of a point name
pub record PointParts (s : List ℕ) : Type 0 where
  pub whole : length (s ++ replicate (16 - length s) 0) ≡ 16
  pub some : 1 ≤ length s
  pub few : length s ≤ 16
  pub is : take (length s) (s ++ replicate (16 - length s) 0) ≡ s
  pub visible : all_visible (take (length s) (s ++ replicate (16 - length s) 0)) ≡ true

pub point_parts : (s : List ℕ) → point_judged s ≡ true → PointParts s
point_parts s e =
    let p = and_parts (in_range 1 16 (length s)) (all_visible s) e in
    let r = ranged 1 16 (length s) p.0 in
    let is : take (length s) (s ++ replicate (16 - length s) 0) ≡ s = take_at s (replicate (16 - length s) 0) (length s) refl in
    record {
      whole = simp (length-append, length-replicate) (omega arith);
      some = r.0;
      few = r.1;
      is = is;
      visible = ap all_visible is ∙ p.1;
    }

-- four bytes one by one
four_bytes : (s : List ℕ) → length s ≡ 4 → s ≡ get_or s 0 0 ∷ get_or s 1 0 ∷ get_or s 2 0 ∷ get_or s 3 0 ∷ []
four_bytes (a ∷ b ∷ c ∷ d ∷ []) e = refl
four_bytes [] e = absurd (omega arith)
four_bytes (a ∷ []) e = absurd (omega arith)
four_bytes (a ∷ b ∷ []) e = absurd (omega arith)
four_bytes (a ∷ b ∷ c ∷ []) e = absurd (omega arith)
four_bytes (a ∷ b ∷ c ∷ d ∷ x ∷ xs) e = absurd (omega arith)

-- four bytes and the pan and the day in them
pub cell_read : (s : List ℕ) (pan day : ℕ) → length s ≡ 4 → Bytes s → pan ≡ two_at s 0 → day ≡ two_at s 2 → is_cell pan day ≡ true → (cell_judged s ≡ true) × (cell_spelling pan day ≡ s)
cell_read s pan day four bytes p d e =
    let l1 = bytes 1 in
    let l3 = bytes 3 in
    let e0 : pan / 256 ≡ get_or s 0 0 = omega arith in
    let e1 : pan % 256 ≡ get_or s 1 0 = omega arith in
    let e2 : day / 256 ≡ get_or s 2 0 = omega arith in
    let e3 : day % 256 ≡ get_or s 3 0 = omega arith in (
      and_from (eqb (length s) 4) _ (eq-eqb (length s) 4 four) (sym (ap (λ x. is_cell x day) p ∙ ap (is_cell (two_at s 0)) d) ∙ e),
      simp (e0, e1, e2, e3) (sym (four_bytes s four)),
    )

-- bytes that are judged yes hold a pan and a day
pub record CellParts (s : List ℕ) : Type 0 where
  pub pan_from_1 : 1 ≤ two_at s 0
  pub pan_to_999 : two_at s 0 ≤ 999
  pub day_from_1 : 1 ≤ two_at s 2
  pub day_to_366 : two_at s 2 ≤ 366
  pub is : cell_spelling (two_at s 0) (two_at s 2) ≡ s

pub cell_parts : (s : List ℕ) → Bytes s → cell_judged s ≡ true → CellParts s
cell_parts s bytes e =
    let p = and_parts (eqb (length s) 4) (is_cell (two_at s 0) (two_at s 2)) e in
    let q = and_parts (in_range 1 999 (two_at s 0)) (in_range 1 366 (two_at s 2)) p.1 in
    let pan = ranged 1 999 (two_at s 0) q.0 in
    let day = ranged 1 366 (two_at s 2) q.1 in
    record {
      pan_from_1 = pan.0;
      pan_to_999 = pan.1;
      day_from_1 = day.0;
      day_to_366 = day.1;
      is = (cell_read s (two_at s 0) (two_at s 2) (eqb-true (length s) 4 p.0) bytes refl refl p.1).1;
    }
