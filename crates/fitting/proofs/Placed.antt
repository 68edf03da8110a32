-- Names of a level, place by place.
use Rattle.std.proofs.Common.{◌≡◌, ℕ, zero, suc, ◌+◌, ◌%◌, ◌<◌, ◌≤◌, Bool, true, false, ◌||◌, eqb, List, [], ◌∷◌, ◌++◌, length, get_or, drop, set, is_some, Some, None, Option, sym, refl, ap, ◌∙◌, subst, inl, inr, mod-lt, arith}
use Rattle.std.proofs.lemmas.Bool.{cases_eq, eq-eqb, ne_eqb, or_right}
use Rattle.std.proofs.lemmas.List.{at_drop_more, at_drop_all, length-set, get_or-set_same, get_or-set_other, append-nil, append_assoc}
use Rattle.fitting.specs.declared.level.LevelName.{LevelName}
use Rattle.runs.specs.Lists.{among}
use Rattle.runs.specs.Fitting.{turned}
use Rattle.fitting.specs.Placing.{FilledAre, offsets, placed}

-- what is read past the end of a level
abbrev pub no_name : LevelName
no_name = record { row = 0; offset = 0 }

pub offset_at : (level : List LevelName) (j : ℕ) → get_or (offsets level) j 0 ≡ (get_or level j no_name).offset
offset_at [] j = refl
offset_at (x ∷ xs) zero = refl
offset_at (x ∷ xs) (suc j) = offset_at xs j

pub length_offsets : (level : List LevelName) → length (offsets level) ≡ length level
length_offsets [] = refl
length_offsets (x ∷ xs) = ap suc (length_offsets xs)

pub placed_nowhere : (v : ℕ) (level : List LevelName) → placed v level [] ≡ []
placed_nowhere v [] = refl
placed_nowhere v (x ∷ xs) = placed_nowhere v xs

-- one name more, and the last
pub placed_on : (v n : ℕ) (level : List LevelName) (i : ℕ) (slots whole : List (Option ℕ)) → i < length level → length slots ≡ n
    → placed v (drop i level) slots ≡ whole
    → placed v (drop (i + 1) level) (set slots (((get_or level i no_name).offset + v) % n) (Some (get_or level i no_name).row)) ≡ whole
placed_on v n level i slots whole h long inv =
    ap (λ k. placed v (drop (i + 1) level) (set slots (((get_or level i no_name).offset + v) % k) (Some (get_or level i no_name).row))) (sym long)
    ∙ sym (at_drop_more (λ xs. placed v xs slots) level i no_name h) ∙ inv

pub placed_end : (v : ℕ) (level : List LevelName) (i : ℕ) (slots whole : List (Option ℕ)) → length level ≤ i → placed v (drop i level) slots ≡ whole → slots ≡ whole
placed_end v level i slots whole h inv = sym (at_drop_all (λ xs. placed v xs slots) level i h) ∙ inv

-- a slot more is filled
one_more : (slots : List (Option ℕ)) (filled : List ℕ) (s row : ℕ) → s < length slots → FilledAre filled slots → FilledAre (filled ++ s ∷ []) (set slots s (Some row))
one_more slots filled s row in-s are t h = elim (cases_eq t s) [
  | inl e ↦
      ap (λ k. is_some (get_or (set slots s (Some row)) k None)) e ∙ ap is_some (get_or-set_same slots s (Some row) None in-s)
      ∙ sym (among_append t filled (s ∷ []) ∙ or_right (among t filled) (among t (s ∷ [])) (ap (λ b. b || false) (eq-eqb t s e)))
  | inr e ↦
      ap is_some (get_or-set_other slots s t (Some row) None e) ∙ are t (omega (arith, length-set slots s (Some row)))
      ∙ sym (among_append t filled (s ∷ []) ∙ ap (λ b. among t filled || (b || false)) (ne_eqb t s e) ∙ or_false (among t filled))
]
  where
    or_false : (b : Bool) → (b || false) ≡ b
    or_false true = refl
    or_false false = refl

    among_append : (t : ℕ) (xs ys : List ℕ) → among t (xs ++ ys) ≡ among t xs || among t ys
    among_append t [] ys = refl
    among_append t (x ∷ xs) ys = or_parted (eqb t x) (among t (xs ++ ys)) (among t xs) (among t ys) (among_append t xs ys)
      where
        or_parted : (a b c d : Bool) → b ≡ (c || d) → (a || b) ≡ ((a || c) || d)
        or_parted true b c d e = refl
        or_parted false b c d e = e

-- those filled before, and those of the level
pub placed_fills : (v : ℕ) (level : List LevelName) (slots : List (Option ℕ)) (filled : List ℕ) → 1 ≤ length slots → FilledAre filled slots
    → FilledAre (filled ++ turned (length slots) v (offsets level)) (placed v level slots)
placed_fills v [] slots filled some are = subst (λ fs. FilledAre fs slots) (sym (append-nil filled)) are
placed_fills v (x ∷ xs) slots filled some are =
    let n = length slots in
    let s = (x.offset + v) % n in
    let more = set slots s (Some x.row) in
    let long : length more ≡ n = length-set slots s (Some x.row) in
    let on = placed_fills v xs more (filled ++ s ∷ []) (omega arith) (one_more slots filled s x.row (mod-lt (x.offset + v) some) are) in
    subst (λ fs. FilledAre fs (placed v xs more)) (ap (λ k. (filled ++ s ∷ []) ++ turned k v (offsets xs)) long ∙ append_assoc filled (s ∷ []) (turned n v (offsets xs))) on
