-- Where a plate stands in the lists, its parts are written one after the other until all stand in memory.
use Rattle.std.proofs.Common.{◌≡◌, ℕ, zero, suc, ◌*◌, ◌<◌, ◌≤◌, Bool, true, false, ltb, ◌⊎◌, List, map, length, get_or, take, drop, None, Option, sym, refl, ap, ◌∙◌, subst, inl, inr, arith}
use Rattle.std.proofs.lemmas.Bool.{ltb-true, lt-ltb, cases_eq, cond-true}
use Rattle.std.proofs.lemmas.List.{get_or-take, length-take-le}
use Rattle.runs.specs.Plates.{Entry, Plate, two, record_field, plate_string}
use Rattle.graph.specs.declared.rows.Row.{Row}
use Rattle.graph.specs.declared.rows.Vertex.{Vertex}
use Rattle.graph.specs.Chains.{row, bare}
use Rattle.fields.specs.Writing.{written}
use Rattle.fields.specs.Parts.{value_place, record_place, no_entry, Part, the_header, the_values_head, value_of, record_in, Has, Measured, Stands, Those}
use Rattle.fields.proofs.Standing.{none_stands, one_more_stands, all_are_the_string}
use Rattle.sealing.specs.Sealing.{row_entry, Laid, seal_length, seal_fits, front_written, values_written, slot_written, records_written, sealed, SealWritten}
use Rattle.sealing.proofs.Kept.{fitted, short_entry, kept_sealed}

-- which parts are written: the header, the head of the values field, so many values, so many records
abbrev upto : Bool → Bool → ℕ → ℕ → Part → Bool
upto header head values records the_header = header
upto header head values records the_values_head = head
upto header head values records (value_of k) = ltb k values
upto header head values records (record_in k) = ltb k records

-- below one more: below, or the last
below_suc : (k m : ℕ) → ltb k (suc m) ≡ true → (ltb k m ≡ true) ⊎ (k ≡ m)
below_suc k m h = elim (cases_eq k m) [ inl e ↦ inr e | inr o ↦ inl (lt-ltb k m (omega (arith, ltb-true k (suc m) h, o))) ]

none_below : {X : Type 0} (k : ℕ) → ltb k 0 ≡ true → X
none_below k h = let l = ltb-true k 0 h in let z : ⊥ = omega arith in absurd z

more_header : (x : Part) → Those (upto true false 0 0) x → Those (λ q. false) x ⊎ (x ≡ the_header)
more_header the_header h = inr refl
more_header the_values_head h = inl h
more_header (value_of k) h = none_below k h
more_header (record_in k) h = none_below k h

more_head : (x : Part) → Those (upto true true 0 0) x → Those (upto true false 0 0) x ⊎ (x ≡ the_values_head)
more_head the_header h = inl h
more_head the_values_head h = inr refl
more_head (value_of k) h = inl h
more_head (record_in k) h = inl h

more_values : (m : ℕ) (x : Part) → Those (upto true true (suc m) 0) x → Those (upto true true m 0) x ⊎ (x ≡ value_of m)
more_values m the_header h = inl h
more_values m the_values_head h = inl h
more_values m (value_of k) h = elim (below_suc k m h) [ inl l ↦ inl l | inr e ↦ inr (ap value_of e) ]
more_values m (record_in k) h = inl h

more_records : (v m : ℕ) (x : Part) → Those (upto true true v (suc m)) x → Those (upto true true v m) x ⊎ (x ≡ record_in m)
more_records v m the_header h = inl h
more_records v m the_values_head h = inl h
more_records v m (value_of k) h = inl h
more_records v m (record_in k) h = elim (below_suc k m h) [ inl l ↦ inl l | inr e ↦ inr (ap record_in e) ]

all_upto : (p : Plate) (q : Part) → Has p q → Those (upto true true (2 * p.r) (length p.records)) q
all_upto p the_header h = refl
all_upto p the_values_head h = refl
all_upto p (value_of k) h = lt-ltb k (2 * p.r) h
all_upto p (record_in k) h = lt-ltb k (length p.records) h

module _ {N : Type 0} (spell : N → List ℕ) (few : (x : N) → length (spell x) ≤ 16) (kind : ℕ) (p : Plate) (rows : List (Row N)) (vertices : List Vertex) (slots : List (Option ℕ)) (old : List ℕ)
    (laid : Laid spell p (length p.records) p.r p.seed rows vertices slots) (room : seal_length (length p.records) p.r ≤ length old) where
  measured : Measured p
  measured = record {
    value_count = laid.value_count;
    short_spellings = λ k h. let w = laid.record_of k h in subst (λ (e : Entry). length e.spelling ≤ 16) w.3 (short_entry spell few rows w.0);
  }

  front_stands : Stands kind p (Those (upto true true 0 0)) old (front_written kind (length p.records) p.r p.seed old)
  front_stands =
      one_more_stands kind p (upto true false 0 0) (upto true true 0 0) the_values_head old _ measured room tt more_head
      (one_more_stands kind p (λ q. false) (upto true false 0 0) the_header old old measured room tt more_header (none_stands kind p old))

  values_stand : (m : ℕ) (memory : List ℕ) → m ≤ 2 * p.r → Stands kind p (Those (upto true true 0 0)) old memory → Stands kind p (Those (upto true true m 0)) old (values_written vertices m memory)
  values_stand zero memory h st = st
  values_stand (suc m) memory h st =
      let before = values_written vertices m memory in
      let next = one_more_stands kind p (upto true true m 0) (upto true true (suc m) 0) (value_of m) old before measured room (omega arith) (more_values m) (values_stand m memory (omega arith) st) in
      subst (λ (v : ℕ). Stands kind p (Those (upto true true (suc m) 0)) old (written (value_place m) (two v) before)) (sym (laid.values m (omega arith))) next

  -- the slot of a record holds the row that gives it
  slot_is : (k : ℕ) (memory : List ℕ) → k < length p.records → slot_written spell rows p.r k (get_or slots k None) memory ≡ written (record_place p.r k) (record_field (get_or p.records k no_entry)) memory
  slot_is k memory h =
      let w = laid.record_of k h in
      let put = λ (e : Entry). written (record_place p.r k) (record_field e) memory in
      ap (λ o. slot_written spell rows p.r k o memory) w.2 ∙
      cond-true (ltb w.0 (length rows)) (put (get_or (map (row_entry spell) rows) w.0 no_entry)) memory (lt-ltb w.0 (length rows) w.1) ∙
      ap put w.3

  records_stand : (v m : ℕ) (memory : List ℕ) → m ≤ length p.records → Stands kind p (Those (upto true true v 0)) old memory → Stands kind p (Those (upto true true v m)) old (records_written spell rows slots p.r m memory)
  records_stand v zero memory h st = st
  records_stand v (suc m) memory h st =
      let before = records_written spell rows slots p.r m memory in
      let next = one_more_stands kind p (upto true true v m) (upto true true v (suc m)) (record_in m) old before measured room (omega arith) (more_records v m) (records_stand v m memory (omega arith) st) in
      subst (λ (x : List ℕ). Stands kind p (Those (upto true true v (suc m))) old x) (sym (slot_is m before (omega arith))) next

  string_sealed : take (seal_length (length p.records) p.r) (sealed kind spell (length p.records) p.r p.seed rows vertices slots old) ≡ plate_string kind p
  string_sealed =
      (all_are_the_string kind p (upto true true (2 * p.r) (length p.records)) old _ measured room (all_upto p)
      (records_stand (2 * p.r) (length p.records) _ (omega arith) (values_stand (2 * p.r) _ (omega arith) front_stands))).string

-- the same at the numbers that the lists are read with
pub exact_sealed : {N : Type 0} (spell : N → List ℕ) → ((x : N) → length (spell x) ≤ 16) → (kind n r seed : ℕ) (rows : List (Row N)) (vertices : List Vertex) (slots : List (Option ℕ)) (old : List ℕ) →
    seal_length n r ≤ length old → (p : Plate) → Laid spell p n r seed rows vertices slots → take (seal_length n r) (sealed kind spell n r seed rows vertices slots old) ≡ plate_string kind p
exact_sealed spell few kind n r seed rows vertices slots old room p laid =
    let At = λ (n r seed : ℕ). Laid spell p n r seed rows vertices slots → seal_length n r ≤ length old → take (seal_length n r) (sealed kind spell n r seed rows vertices slots old) ≡ plate_string kind p in
    let own : At (length p.records) p.r p.seed = string_sealed spell few kind p rows vertices slots old in
    subst (λ x. At x r seed) laid.same_n (subst (λ x. At (length p.records) x seed) laid.same_r (subst (λ x. At (length p.records) p.r x) laid.same_seed own)) laid room

-- the writes of a list read no further than its front
values_front : (vertices : List Vertex) (m k : ℕ) (memory : List ℕ) → k ≤ m → values_written (take m vertices) k memory ≡ values_written vertices k memory
values_front vertices m zero memory h = refl
values_front vertices m (suc k) memory h =
    let e : row (take m vertices) k ≡ row vertices k = get_or-take m vertices k bare (omega arith) in
    λ i. written (value_place k) (two (e i).value) (values_front vertices m k memory (omega arith) i)

records_front : {N : Type 0} (spell : N → List ℕ) (rows : List (Row N)) (slots : List (Option ℕ)) (r m k : ℕ) (memory : List ℕ) → k ≤ m → records_written spell rows (take m slots) r k memory ≡ records_written spell rows slots r k memory
records_front spell rows slots r m zero memory h = refl
records_front spell rows slots r m (suc k) memory h =
    let e : get_or (take m slots) k None ≡ get_or slots k None = get_or-take m slots k None (omega arith) in
    λ i. slot_written spell rows r k (e i) (records_front spell rows slots r m k memory (omega arith) i)

-- what the writes of the front, of the values and of the records come to
pub all_written : {N : Type 0} (spell : N → List ℕ) → ((x : N) → length (spell x) ≤ 16) → (kind n r seed : ℕ) (rows : List (Row N)) (vertices : List Vertex) (slots : List (Option ℕ)) {m m₁ m₂ m₃ : List ℕ} (n' r' : ℕ) {answer : ℕ} →
    n' ≡ n → r' ≡ r → seal_fits n r (length m) (length vertices) (length slots) ≡ true →
    m₁ ≡ front_written kind n r seed m → m₂ ≡ values_written (take (2 * r') vertices) (length (take (2 * r') vertices)) m₁ →
    m₃ ≡ records_written spell rows (take n' slots) r (length (take n' slots)) m₂ → answer ≡ seal_length n r →
    SealWritten (seal_fits n r (length m) (length vertices) (length slots)) kind spell n r seed rows vertices slots m m₃ answer
all_written spell few kind n r seed rows vertices slots {m} {m₁} {m₂} {m₃} n' r' en er fits first second third whole =
    let f = fitted n r (length m) (length vertices) (length slots) fits in
    let lv : length (take (2 * r') vertices) ≡ 2 * r = let e : 2 * r' ≡ 2 * r = omega arith in ap (λ k. length (take k vertices)) e ∙ length-take-le (2 * r) vertices f.vertices_there in
    let ls : length (take n' slots) ≡ n = ap (λ k. length (take k slots)) en ∙ length-take-le n slots f.slots_there in
    let values : m₂ ≡ values_written vertices (2 * r) m₁ = second ∙ ap (λ k. values_written (take (2 * r') vertices) k m₁) lv ∙ values_front vertices (2 * r') (2 * r) m₁ (omega arith) in
    let records : m₃ ≡ records_written spell rows slots r n m₂ = third ∙ ap (λ k. records_written spell rows (take n' slots) r k m₂) ls ∙ records_front spell rows slots r n' n m₂ (omega arith) in
    let all : m₃ ≡ sealed kind spell n r seed rows vertices slots m = records ∙ ap (records_written spell rows slots r n) (values ∙ ap (values_written vertices (2 * r)) first) in
    let kept = kept_sealed n r m f.room spell few rows kind seed vertices slots in
    record {
      long = fits;
      whole = whole;
      same_length = ap length all ∙ kept.same_length;
      behind = ap (drop (seal_length n r)) all ∙ kept.behind;
      written_parts = all;
      exact = λ p laid. ap (take (seal_length n r)) all ∙ exact_sealed spell few kind n r seed rows vertices slots m f.room p laid;
    }
