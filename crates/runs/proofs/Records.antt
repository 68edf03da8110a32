-- Entries put by slot: each in its own slot, and found as before.
use Rattle.std.proofs.Common.{◌≡◌, ℕ, zero, suc, ◌+◌, ◌<◌, ◌≤◌, cond, eqb, List, [], ◌∷◌, map, length, get_or, Some, None, sym, refl, ap, ◌∙◌, inl, inr, arith}
use Rattle.std.specs.List.{range_with_len, AllByRecursion}
use Rattle.std.proofs.lemmas.Bool.{eq-eqb, ne_eqb, cases_Bool, cases_eq, cond-true, cond-false}
use Rattle.std.proofs.lemmas.List.FromFn.{length-map-range_with_len, get_or-map-range_with_len}
use Rattle.std.specs.Str.{bytes_eq}
use Rattle.runs.specs.Plates.{Entry, find, one_look, in_place, by_slot}
use Rattle.runs.proofs.Distinct.{same_true}
use Rattle.runs.proofs.Times.{one_le, one_true, one_false, times}

module _ (h : List ℕ → ℕ) where
  abbrev pub slots_of : List Entry → List ℕ
  slots_of es = map (λ e. h e.spelling) es

  -- what holds of every entry holds of the one in a slot; and its slot is that
  pub in_place_all : (P : Entry → Type 0) (k : ℕ) (es : List Entry) → 1 ≤ times k (slots_of es) → AllByRecursion P es → P (in_place h k es)
  in_place_all P k [] c a = absurd (omega arith)
  in_place_all P k (e ∷ es) c a = elim (cases_eq (h e.spelling) k) [
    | inl q ↦ rw (eq-eqb (h e.spelling) k q) a.0
    | inr q ↦ rw (ne_eqb (h e.spelling) k q) (in_place_all P k es (omega (arith, one_false (eqb k (h e.spelling)) (ne_eqb k (h e.spelling) (λ w. q (sym w))))) a.1)
  ]

  pub in_place_slot : (k : ℕ) (es : List Entry) → 1 ≤ times k (slots_of es) → h (in_place h k es).spelling ≡ k
  in_place_slot k [] c = absurd (omega arith)
  in_place_slot k (e ∷ es) c = elim (cases_eq (h e.spelling) k) [
    | inl q ↦ rw (eq-eqb (h e.spelling) k q) q
    | inr q ↦ rw (ne_eqb (h e.spelling) k q) (in_place_slot k es (omega (arith, one_false (eqb k (h e.spelling)) (ne_eqb k (h e.spelling) (λ w. q (sym w))))))
  ]

  -- the entry in a slot is one of the entries, and each entry is the one in its slot if no other has that slot
  pub in_place_from : (d : Entry) (k : ℕ) (es : List Entry) → 1 ≤ times k (slots_of es) → (i : ℕ) × (i < length es) × (in_place h k es ≡ get_or es i d)
  in_place_from d k [] c = absurd (omega arith)
  in_place_from d k (e ∷ es) c = elim (cases_eq (h e.spelling) k) [
    | inl q ↦ (0, omega arith, cond-true (eqb (h e.spelling) k) e (in_place h k es) (eq-eqb (h e.spelling) k q))
    | inr q ↦
        let p = in_place_from d k es (omega (arith, one_false (eqb k (h e.spelling)) (ne_eqb k (h e.spelling) (λ w. q (sym w))))) in
        (suc p.0, omega (arith, p.1), cond-false (eqb (h e.spelling) k) e (in_place h k es) (ne_eqb (h e.spelling) k q) ∙ p.2)
  ]

  slot_taken : (d : Entry) (es : List Entry) (i : ℕ) → i < length es → 1 ≤ times (h (get_or es i d).spelling) (slots_of es)
  slot_taken d [] i l = absurd (omega arith)
  slot_taken d (e ∷ es) zero l = omega (arith, one_true (eqb (h e.spelling) (h e.spelling)) (eq-eqb (h e.spelling) (h e.spelling) refl))
  slot_taken d (e ∷ es) (suc i) l = omega (arith, slot_taken d es i (omega arith), one_le (eqb (h (get_or es i d).spelling) (h e.spelling)))

  pub in_place_at : (d : Entry) (es : List Entry) (i : ℕ) → i < length es → times (h (get_or es i d).spelling) (slots_of es) ≡ 1 → in_place h (h (get_or es i d).spelling) es ≡ get_or es i d
  in_place_at d [] i l c = absurd (omega arith)
  in_place_at d (e ∷ es) zero l c = cond-true (eqb (h e.spelling) (h e.spelling)) e (in_place h (h e.spelling) es) (eq-eqb (h e.spelling) (h e.spelling) refl)
  in_place_at d (e ∷ es) (suc i) l c = elim (cases_eq (h e.spelling) (h (get_or es i d).spelling)) [
    | inl q ↦ absurd (omega (arith, slot_taken d es i (omega arith), one_true (eqb (h (get_or es i d).spelling) (h e.spelling)) (eq-eqb (h (get_or es i d).spelling) (h e.spelling) (sym q))))
    | inr q ↦ cond-false (eqb (h e.spelling) (h (get_or es i d).spelling)) e (in_place h (h (get_or es i d).spelling) es) (ne_eqb (h e.spelling) (h (get_or es i d).spelling) q) ∙
        in_place_at d es i (omega arith) (omega (arith, one_false (eqb (h (get_or es i d).spelling) (h e.spelling)) (ne_eqb (h (get_or es i d).spelling) (h e.spelling) (λ w. q (sym w)))))
  ]

  module _ (s : List ℕ) where
    -- a list with no entry in the slot of s has no entry s
    absent : (es : List Entry) → times (h s) (slots_of es) ≡ 0 → find es s ≡ None
    absent [] c = refl
    absent (e ∷ es) c = elim (cases_Bool (bytes_eq e.spelling s)) [
      | inl q ↦ absurd (omega (arith, one_true (eqb (h s) (h e.spelling)) (eq-eqb (h s) (h e.spelling) (ap h (sym (same_true e.spelling s q))))))
      | inr q ↦ rw q (absent es (omega (arith, one_le (eqb (h s) (h e.spelling)))))
    ]

    -- a list with one entry in the slot of s answers as that entry does
    pub found_in_place : (es : List Entry) → times (h s) (slots_of es) ≡ 1 → find es s ≡ one_look (in_place h (h s) es) s
    found_in_place [] c = absurd (omega arith)
    found_in_place (e ∷ es) c = elim (cases_eq (h e.spelling) (h s)) [
      | inl q ↦ rw (eq-eqb (h e.spelling) (h s) q)
          (ap (λ o. cond (bytes_eq e.spelling s) (Some e.setting) o)
          (absent es (omega (arith, one_true (eqb (h s) (h e.spelling)) (eq-eqb (h s) (h e.spelling) (sym q))))))
      | inr q ↦ elim (cases_Bool (bytes_eq e.spelling s)) [
        | inl t ↦ absurd (q (ap h (same_true e.spelling s t)))
        | inr t ↦ rw (t, ne_eqb (h e.spelling) (h s) q) (found_in_place es (omega (arith, one_false (eqb (h s) (h e.spelling)) (ne_eqb (h s) (h e.spelling) (λ w. q (sym w))))))
      ]
    ]

    -- records each in its own slot answer as the one in the slot of s does
    module _ (f : ℕ → Entry) where
      records_past : (m a : ℕ) → ((k : ℕ) → a ≤ k → k < a + m → h (f k).spelling ≡ k) → h s < a → find (map f (range_with_len a m)) s ≡ None
      records_past zero a own l = refl
      records_past (suc m) a own l = elim (cases_Bool (bytes_eq (f a).spelling s)) [
        | inl t ↦ absurd (omega (arith, own a (omega arith) (omega arith), ap h (same_true (f a).spelling s t)))
        | inr t ↦ rw t (records_past m (a + 1) (λ k p q. own k (omega arith) (omega arith)) (omega arith))
      ]

      pub records_answer : (m a : ℕ) → ((k : ℕ) → a ≤ k → k < a + m → h (f k).spelling ≡ k) → a ≤ h s → h s < a + m → find (map f (range_with_len a m)) s ≡ one_look (f (h s)) s
      records_answer zero a own l u = absurd (omega arith)
      records_answer (suc m) a own l u = elim (cases_eq a (h s)) [
        | inl e ↦ ap (λ o. cond (bytes_eq (f a).spelling s) (Some (f a).setting) o) (records_past m (a + 1) (λ k p q. own k (omega arith) (omega arith)) (omega arith)) ∙ ap (λ k. one_look (f k) s) e
        | inr e ↦ elim (cases_Bool (bytes_eq (f a).spelling s)) [
          | inl t ↦ absurd (e (sym (own a (omega arith) (omega arith)) ∙ ap h (same_true (f a).spelling s t)))
          | inr t ↦ rw t (records_answer m (a + 1) (λ k p q. own k (omega arith) (omega arith)) (omega arith) (omega arith))
        ]
      ]

  -- n entries, one in each slot below n: by slot they are found as before
  module _ (n : ℕ) (es : List Entry) (once : (k : ℕ) → k < n → times k (slots_of es) ≡ 1) where
    pub by_slot_length : length (by_slot h n es) ≡ n
    by_slot_length = length-map-range_with_len (λ k. in_place h k es) 0 n

    pub by_slot_get_or : (k : ℕ) (d : Entry) → k < n → get_or (by_slot h n es) k d ≡ in_place h k es
    by_slot_get_or k d l = get_or-map-range_with_len (λ k. in_place h k es) 0 n k k d l (omega arith)

    pub by_slot_own : (k : ℕ) (d : Entry) → k < n → h (get_or (by_slot h n es) k d).spelling ≡ k
    by_slot_own k d l = ap (λ e. h e.spelling) (by_slot_get_or k d l) ∙ in_place_slot k es (omega (arith, once k l))

    pub by_slot_all : (P : Entry → Type 0) → AllByRecursion P es → (k : ℕ) (d : Entry) → k < n → P (get_or (by_slot h n es) k d)
    by_slot_all P a k d l = rw (by_slot_get_or k d l) (in_place_all P k es (omega (arith, once k l)) a)

    pub by_slot_finds : (s : List ℕ) → h s < n → find (by_slot h n es) s ≡ find es s
    by_slot_finds s l =
        records_answer s (λ k. in_place h k es) n 0 (λ k p q. in_place_slot k es (omega (arith, once k (omega arith)))) (omega arith) (omega arith) ∙
        sym (found_in_place s es (once (h s) l))
