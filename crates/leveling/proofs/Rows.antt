-- What the slots hold once the names of a level are placed: the fillers of the next level.
use Rattle.std.proofs.Common.{◌≡◌, ℕ, zero, suc, ◌+◌, ◌%◌, ◌<◌, ◌≤◌, Bool, true, false, cond, ◌&&◌, eqb, ◌⊎◌, List, [], ◌∷◌, ◌++◌, map, length, get_or, set, is_some, Some, None, Option, sym, refl, ap, ◌∙◌, inl, inr, arith}
use Rattle.std.specs.List.{AllByRecursion}
use Rattle.std.proofs.lemmas.Bool.{cases_Bool, cases_eq, cases_lt, eq-eqb, eqb-true, and_parts, both_ways, cond-true, cond-false}
use Rattle.std.proofs.lemmas.List.{length-set, get_or-set_same, get_or-set_other}
use Rattle.std.proofs.ByRecursion.{All-get_or}
use Rattle.std.proofs.lemmas.List.FromFn.{length-map-range_with_len, get_or-map-range_with_len, fill_by_all}
use Rattle.hashing.specs.Triples.{Triple}
use Rattle.runs.specs.Lists.{among}
use Rattle.runs.specs.Order.{joins}
use Rattle.runs.specs.Fitting.{slot, level_of, offset, turned, free, settles}
use Rattle.runs.proofs.Times.{one, one_le, one_true, one_false, times, times_append, times_among, among_times}
use Rattle.runs.proofs.Levels.{settled_by, level_adds}
use Rattle.graph.specs.Chains.{nil}
use Rattle.fitting.specs.declared.level.LevelName.{LevelName}
use Rattle.fitting.specs.Placing.{offsets, placed}
use Rattle.leveling.specs.Level.{in_level, chain_names, first_where, fills, filler, slot_rows}
use Rattle.leveling.proofs.Counts.{count, count_some, count_two, count_find, gets, one_and, chain_times, level_times, Frees, frees_from}

one_same : (a b : Bool) → one a ≡ one b → a ≡ b
one_same true true h = refl
one_same true false h = absurd (omega arith)
one_same false true h = absurd (omega arith)
one_same false false h = refl

-- the first number that passes
first_same : (p q : ℕ → Bool) (k i : ℕ) → ((j : ℕ) → j < i + k → p j ≡ q j) → first_where p k i ≡ first_where q k i
first_same p q zero i h = refl
first_same p q (suc k) i h = λ t. cond (h i (omega arith) t) (Some i) (first_same p q k (suc i) (λ j l. h j (omega arith)) t)

first_is : (p : ℕ → Bool) (k i a : ℕ) → i ≤ a → a < i + k → p a ≡ true → ((j : ℕ) → j < a → p j ≡ false) → first_where p k i ≡ Some a
first_is p zero i a l m t h = absurd (omega arith)
first_is p (suc k) i a l m t h = elim (cases_eq i a) [
  | inl e ↦ cond-true (p i) _ _ (ap p e ∙ t) ∙ ap (λ u. Some u) e
  | inr e ↦ cond-false (p i) _ _ (h i (omega arith)) ∙ first_is p k (suc i) a (omega arith) (omega arith) t h
]

first_none : (p : ℕ → Bool) (k i : ℕ) → is_some (first_where p k i) ≡ false → (j : ℕ) → i ≤ j → j < i + k → p j ≡ false
first_none p zero i h j l m = absurd (omega arith)
first_none p (suc k) i h j l m = elim (cases_Bool (p i)) [
  | inl e ↦ absurd (both_ways true (sym (ap is_some (cond-true (p i) (Some i) (first_where p k (suc i)) e)) ∙ h) refl)
  | inr e ↦ elim (cases_eq i j) [
    | inl q ↦ ap p (sym q) ∙ e
    | inr q ↦ first_none p k (suc i) (sym (ap is_some (cond-false (p i) (Some i) (first_where p k (suc i)) e)) ∙ h) j (omega arith) (omega arith)
  ]
]

-- names are placed in slots
pub length_placed : (x : ℕ) (names : List LevelName) (slots : List (Option ℕ)) → length (placed x names slots) ≡ length slots
length_placed x [] slots = refl
length_placed x (y ∷ names) slots = length_placed x names (set slots ((y.offset + x) % length slots) (Some y.row)) ∙ length-set slots ((y.offset + x) % length slots) (Some y.row)

placed_miss : (x n s : ℕ) (names : List LevelName) (slots : List (Option ℕ)) → length slots ≡ n → times s (turned n x (offsets names)) ≡ 0 → get_or (placed x names slots) s None ≡ get_or slots s None
placed_miss x n s [] slots e z = refl
placed_miss x n s (y ∷ names) slots e z =
    placed_miss x n s names (set slots ((y.offset + x) % length slots) (Some y.row)) (length-set slots ((y.offset + x) % length slots) (Some y.row) ∙ e) (omega arith) ∙
    get_or-set_other slots ((y.offset + x) % length slots) s (Some y.row) None
    (λ q. omega (arith, one_true (eqb s ((y.offset + x) % n)) (eq-eqb s ((y.offset + x) % n) (q ∙ ap (λ m. (y.offset + x) % m) e))))

module _ (es : List Triple) (n : ℕ) (values vs : List ℕ) (v x s : ℕ) (low : s < n) where
  placed_hit : (k i : ℕ) (slots : List (Option ℕ)) → length slots ≡ n → i < k → gets es n values vs v x s i ≡ true → count (gets es n values vs v x s) k ≤ 1 →
      get_or (placed x (chain_names es n values vs v k) slots) s None ≡ Some i
  placed_hit zero i slots e l t c = absurd (omega arith)
  placed_hit (suc k) i slots e l t c = elim (cases_Bool (in_level es vs v k)) [
    | inl m ↦
        let at = (offset n values v (get_or es k nil) + x) % length slots in
        let more = set slots at (Some k) in
        let long : length more ≡ n = length-set slots at (Some k) ∙ e in
        ap (λ xs. get_or (placed x xs slots) s None) (cond-true (in_level es vs v k) _ _ m) ∙
        elim (cases_eq i k) [
          | inl q ↦
              let tk : gets es n values vs v x s k ≡ true = ap (gets es n values vs v x s) (sym q) ∙ t in
              let is : at ≡ s = ap (λ y. (offset n values v (get_or es k nil) + x) % y) e ∙ eqb-true _ s (and_parts (in_level es vs v k) (eqb ((offset n values v (get_or es k nil) + x) % n) s) tk).1 in
              placed_miss x n s (chain_names es n values vs v k) more long (chain_times es n values vs v x s k ∙ omega (arith, one_true (gets es n values vs v x s k) tk)) ∙
              ap (λ y. get_or (set slots y (Some k)) s None) is ∙ get_or-set_same slots s (Some k) None (omega arith) ∙ ap (λ y. Some y) (sym q)
          | inr q ↦ placed_hit k i more long (omega arith) t (omega arith)
        ]
    | inr m ↦
        ap (λ xs. get_or (placed x xs slots) s None) (cond-false (in_level es vs v k) _ _ m) ∙
        placed_hit k i slots e (elim (cases_eq i k) [ inl q ↦ absurd (both_ways (in_level es vs v k) m (and_parts (in_level es vs v k) (eqb ((offset n values v (get_or es k nil) + x) % n) s) (ap (gets es n values vs v x s) (sym q) ∙ t)).0) | inr q ↦ omega arith ]) t (omega arith)
  ]

settled_one : (n : ℕ) (values vs : List ℕ) (s : ℕ) (e : Triple) → times s (settled_by n values vs (e ∷ [])) ≡ one (settles vs e && eqb (slot n values e) s)
settled_one n values vs s e = elim (cases_Bool (settles vs e)) [
  | inl q ↦ simp q (omega (arith, one_and true s (slot n values e)))
  | inr q ↦ simp q refl
]

level_one : (n : ℕ) (values vs : List ℕ) (v x s : ℕ) (e : Triple) → times s (turned n x (map (offset n values v) (level_of (e ∷ []) vs v))) ≡ one (joins vs v e && eqb ((offset n values v e + x) % n) s)
level_one n values vs v x s e = elim (cases_Bool (joins vs v e)) [
  | inl q ↦ simp q (omega (arith, one_and true s ((offset n values v e + x) % n)))
  | inr q ↦ simp q refl
]

-- a rotation x that fits the level of v
module _ (es : List Triple) (n : ℕ) (values filled vs : List ℕ) (v x : ℕ) (en : length es ≡ n)
    (ends : AllByRecursion (λ e. e.h1 ≡ e.h2 → ⊥) es) (inside : v < length values) (fresh : among v vs ≡ false)
    (fits : free filled (turned n x (map (offset n values v) (level_of es vs v))) ≡ true)
    (fill : (s : ℕ) → s < n → among s filled ≡ is_some (filler es n values vs s)) where
  abbrev after : List ℕ
  after = set values v x

  abbrev more : List ℕ
  more = vs ++ v ∷ []

  abbrev new : List ℕ
  new = turned n x (map (offset n values v) (level_of es vs v))

  frees : Frees filled new
  frees = frees_from filled new fits

  module _ (s : ℕ) (low : s < n) where
    abbrev given : ℕ → Bool
    given = gets es n values vs v x s

    new_times : times s new ≡ count given n
    new_times = level_times es n values vs v x s ∙ ap (count given) en

    -- a name fills the slot then if it did before, or if the level gives it
    fills_more : (i : ℕ) → i < n → one (fills es n after more s i) ≡ one (fills es n values vs s i) + one (given i)
    fills_more i l =
        let e = get_or es i nil in
        let d = All-get_or (λ e. e.h1 ≡ e.h2 → ⊥) es i nil (omega arith) ends in
        omega (arith, settled_one n after more s e, settled_one n values vs s e, level_one n values vs v x s e, level_adds n values vs v x inside fresh s (e ∷ []) (d, tt))

    filler_miss : count given n ≡ 0 → filler es n after more s ≡ filler es n values vs s
    filler_miss z = first_same (fills es n after more s) (fills es n values vs s) (length es) 0
        (λ j l. one_same (fills es n after more s j) (fills es n values vs s j)
        (elim (cases_Bool (given j)) [
          | inl t ↦ absurd (omega (arith, count_some given n j (omega arith) t))
          | inr t ↦ omega (arith, fills_more j (omega arith), one_false (given j) t)
        ]))

    filler_hit : (i : ℕ) → i < n → given i ≡ true → filler es n after more s ≡ Some i
    filler_hit i l t =
        let some = count_some given n i l t in
        let empty = first_none (fills es n values vs s) (length es) 0 (sym (fill s low) ∙ frees.empty s (omega (arith, new_times))) in
        first_is (fills es n after more s) (length es) 0 i (omega arith) (omega arith)
        (one_same (fills es n after more s i) true (omega (arith, fills_more i l, one_true (given i) t, one_le (fills es n after more s i))))
        (λ j m. one_same (fills es n after more s j) false
        (elim (cases_Bool (given j)) [
          | inl u ↦ absurd (omega (arith, count_two given n i j m l u t, frees.once s, new_times))
          | inr u ↦ omega (arith, fills_more j (omega arith), one_false (given j) u, one_false (fills es n values vs s j) (empty j (omega arith) (omega arith)))
        ]))

    cases_given : (count given n ≡ 0) ⊎ ((i : ℕ) × (i < n) × (given i ≡ true))
    cases_given = elim (cases_lt 0 (count given n)) [ inl l ↦ inr (count_find given n (omega arith)) | inr l ↦ inl (omega arith) ]

    row_at : get_or (placed x (chain_names es n values vs v n) (slot_rows es n values vs)) s None ≡ filler es n after more s
    row_at =
        let long = length-map-range_with_len (filler es n values vs) 0 n in
        elim cases_given [
          | inl z ↦
              placed_miss x n s (chain_names es n values vs v n) (slot_rows es n values vs) long (chain_times es n values vs v x s n ∙ z) ∙
              get_or-map-range_with_len (filler es n values vs) 0 n s s None low (omega arith) ∙ sym (filler_miss z)
          | inr p ↦
              placed_hit es n values vs v x s low n p.0 (slot_rows es n values vs) long p.1 p.2 (omega (arith, frees.once s, new_times)) ∙
              sym (filler_hit p.0 p.1 p.2)
        ]

    pub filled_more : among s (filled ++ new) ≡ is_some (filler es n after more s)
    filled_more = elim cases_given [
      | inl z ↦ among_same (filled ++ new) filled (omega (arith, times_append s filled new, new_times)) ∙ fill s low ∙ ap is_some (sym (filler_miss z))
      | inr p ↦
          among_times s (filled ++ new) (omega (arith, times_append s filled new, new_times, count_some given n p.0 p.1 p.2)) ∙
          ap is_some (sym (filler_hit p.0 p.1 p.2))
    ]
      where
        among_same : (xs ys : List ℕ) → times s xs ≡ times s ys → among s xs ≡ among s ys
        among_same xs ys h = elim (cases_Bool (among s ys)) [
          | inl e ↦ among_times s xs (omega (arith, times_among s ys e)) ∙ sym e
          | inr e ↦ elim (cases_Bool (among s xs)) [
            | inl o ↦ absurd (both_ways (among s ys) e (among_times s ys (omega (arith, times_among s xs o))))
            | inr o ↦ o ∙ sym e
          ]
        ]

  pub rows_more : placed x (chain_names es n values vs v n) (slot_rows es n values vs) ≡ slot_rows es n after more
  rows_more = fill_by_all (filler es n after more) (placed x (chain_names es n values vs v n) (slot_rows es n values vs)) n None
      (length_placed x (chain_names es n values vs v n) (slot_rows es n values vs) ∙ length-map-range_with_len (filler es n values vs) 0 n) row_at
