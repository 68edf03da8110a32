-- An accepted seal has a lawful plate that holds the names entered, and its string has the length answered.
use Rattle.std.proofs.Common.{◌≡◌, ℕ, suc, ◌+◌, ◌-◌, ◌*◌, ◌<◌, ◌≤◌, List, [], ◌∷◌, map, length, get_or, Ok, replicate, refl, ap, ◌∙◌, mod-lt, arith}
use Rattle.std.specs.List.{AllByRecursion}
use Rattle.std.proofs.lemmas.List.{length-map, length-append, length-replicate, take_all}
use Rattle.std.proofs.ByRecursion.{All-get_or}
use Rattle.hashing.specs.Generator.{tables}
use Rattle.hashing.specs.Triples.{triple}
use Rattle.runs.specs.declared.stage.Stage.TheVariants.{Fitted}
use Rattle.runs.specs.declared.answer.Outcome.TheVariants as answered
use Rattle.runs.specs.Fitting.{slot}
use Rattle.runs.specs.Plates.{Entry, Plate, Lawful, slot_of, two, concat, record_field, plate_string}
use Rattle.runs.specs.Runs.{Run, seal, Lent, count, graph, vertex_order, string_length, answer, entry_of, entered, run_slot, pressed, sealed_string}
use Rattle.runs.specs.Laws.{SpelledBy, PlateOf}
use Rattle.runs.proofs.Times.{times}
use Rattle.runs.proofs.Graph.{Filled, all_within, filled_all}
use Rattle.runs.proofs.Records.{slots_of, in_place_from, in_place_at, by_slot_length, by_slot_get_or, by_slot_own, by_slot_all, by_slot_finds}
use Rattle.runs.proofs.Standing.{Ranged, Stands, AtStage, at, edges_of, length_graph, seal_passed}
use Rattle.runs.proofs.Fitted.{was_accepted}

-- 1. lengths of strings

length_twos : (xs : List ℕ) → length (concat (map two xs)) ≡ 2 * length xs
length_twos [] = refl
length_twos (x ∷ xs) = omega (arith, length_twos xs)

length_record : (e : Entry) → length e.spelling ≤ 16 → length (record_field e) ≡ 22
length_record e h = omega (arith, length-append e.spelling (replicate (16 - length e.spelling) 0), length-replicate {A = ℕ} (16 - length e.spelling) 0)

length_records : (es : List Entry) → ((k : ℕ) (d : Entry) → k < length es → length (get_or es k d).spelling ≤ 16) → length (concat (map record_field es)) ≡ 22 * length es
length_records [] h = refl
length_records (e ∷ es) h =
    length-append (record_field e) (concat (map record_field es)) ∙
    omega (arith, length_record e (h 0 e (omega arith)), length_records es (λ k d l. h (suc k) d (omega arith)))

length_string : (kind : ℕ) (p : Plate) → length p.values ≡ 2 * p.r → ((k : ℕ) (d : Entry) → k < length p.records → length (get_or p.records k d).spelling ≤ 16) →
    length (plate_string kind p) ≡ 21 + 4 * p.r + 22 * length p.records
length_string kind p v h =
    omega (arith, length-append (concat (map two p.values)) (concat (map record_field p.records)), length_twos p.values, length_records p.records h)

module _ {N : Type 0} (spelling : N → List ℕ) where
  -- 2. every name settled: the plate

  module _ (m : Run N) (h : Stands spelling m) (a : AtStage spelling Fitted m) where
    abbrev n : ℕ
    n = count m

    abbrev home : List ℕ → ℕ
    home = run_slot spelling m

    abbrev plate : Plate
    plate = pressed spelling m

    g : Ranged spelling m
    g = a.0

    filled : Filled n (2 * m.r) (graph spelling m) m.values m.filled (vertex_order spelling m)
    filled = rw (take_all m.level (vertex_order spelling m) (omega (arith, a.2))) at a.1

    entered_slots : (xs : List (N × ℕ)) → slots_of home (map (entry_of spelling) xs) ≡ map (slot n m.values) (map (λ x. triple (tables m.seed) n m.r (spelling x.0)) xs)
    entered_slots [] = refl
    entered_slots (x ∷ xs) = ap (λ l. home (spelling x.0) ∷ l) (entered_slots xs)

    once : (k : ℕ) → k < n → times k (slots_of home (entered spelling m)) ≡ 1
    once k l = ap (times k) (entered_slots m.names) ∙
        filled_all n (2 * m.r) (graph spelling m) m.values m.filled (vertex_order spelling m) g.some_name (length_graph spelling m)
        (all_within (graph spelling m) m.r (edges_of spelling m g.some_vertex)) filled k l

    home_low : (s : List ℕ) → home s < n
    home_low s = mod-lt _ g.some_name

    counted : length plate.records ≡ n
    counted = by_slot_length home n (entered spelling m) once

    all_entered : length (entered spelling m) ≡ n
    all_entered = length-map m.names (entry_of spelling)

    own_slot : (s : List ℕ) → slot_of plate s ≡ home s
    own_slot s = ap (λ k. slot k m.values (triple (tables m.seed) k m.r s)) counted

    every : (P : Entry → Type 0) → ((x : N × ℕ) → x.1 < 65536 → P (entry_of spelling x)) → (k : ℕ) (d : Entry) → k < length plate.records → P (get_or plate.records k d)
    every P e k d l = by_slot_all home n (entered spelling m) once P (go m.names h.low) k d (omega (arith, counted))
      where
        go : (xs : List (N × ℕ)) → AllByRecursion (λ x. x.1 < 65536) xs → AllByRecursion P (map (entry_of spelling) xs)
        go [] q = tt
        go (x ∷ xs) q = (e x q.0, go xs q.1)

    pressed_lawful : Lawful (SpelledBy spelling) plate
    pressed_lawful = record {
      some_name = omega (arith, counted, g.some_name);
      few_names = omega (arith, counted, h.few);
      some_vertex = g.some_vertex;
      few_vertices = g.few_vertices;
      seed_low = g.seed_low;
      seed_high = g.seed_high;
      value_count = filled.size;
      values_low = λ k l. rw counted (All-get_or (λ x. x < n) m.values k 0 (omega (arith, filled.size)) filled.low);
      settings_low = every (λ e. e.setting < 65536) (λ x l. l);
      spelled = every (λ e. SpelledBy spelling e.spelling) (λ x l. (x.0, refl));
      in_slot = λ k d l. own_slot _ ∙ by_slot_own home n (entered spelling m) once k d (omega (arith, counted));
    }

    holds : (i : ℕ) (d : Entry) → i < n → get_or plate.records (slot_of plate (get_or (entered spelling m) i d).spelling) d ≡ get_or (entered spelling m) i d
    holds i d l =
        let s = (get_or (entered spelling m) i d).spelling in
        ap (λ k. get_or plate.records k d) (own_slot s) ∙
        by_slot_get_or home n (entered spelling m) once (home s) d (home_low s) ∙
        in_place_at home d (entered spelling m) i (omega (arith, all_entered)) (once (home s) (home_low s))

    holds_only : (k : ℕ) (d : Entry) → k < length plate.records → (i : ℕ) × (i < n) × (get_or plate.records k d ≡ get_or (entered spelling m) i d)
    holds_only k d l =
        let low : k < n = omega (arith, counted) in
        let p = in_place_from home d k (entered spelling m) (omega (arith, once k low)) in
        (p.0, omega (arith, p.1, all_entered), by_slot_get_or home n (entered spelling m) once k d low ∙ p.2)

    pub plate_of : PlateOf spelling m plate
    plate_of = record {
      lawful = pressed_lawful;
      same_r = refl;
      same_seed = refl;
      same_values = refl;
      counts = counted;
      holds = holds;
      holds_only = holds_only;
      finds = λ s. by_slot_finds home n (entered spelling m) once s (home_low s);
    }

    length_sealed : ((x : N) → length (spelling x) ≤ 16) → (kind : ℕ) → length (sealed_string spelling kind m) ≡ string_length m
    length_sealed short kind =
        length_string kind plate filled.size (every (λ e. length e.spelling ≤ 16) (λ x l. short x.0)) ∙ ap (λ k. 21 + 4 * m.r + 22 * k) counted

  -- 3. an accepted seal

  seal_length : (a b : ℕ) → answered.Sealed a ≡ answered.Sealed b → a ≡ b
  seal_length a b e = cc

  pub seals_soundly : (m : Run N) → Stands spelling m → (l : Lent) (room k : ℕ) → answer spelling m (seal l room) ≡ Ok (answered.Sealed k) →
      PlateOf spelling m (pressed spelling m) × (k ≤ room) × (((x : N) → length (spelling x) ≤ 16) → (kind : ℕ) → length (sealed_string spelling kind m) ≡ k)
  seals_soundly m h l room k e =
      let p = was_accepted spelling m (seal l room) (answered.Sealed k) e in
      let q = seal_passed spelling m l room p.0 in
      let a = at spelling m Fitted h q.0 in
      let is = seal_length (string_length m) k p.1 in
      (plate_of m h a, omega (arith, q.1), λ short kind. length_sealed m h a short kind ∙ is)
