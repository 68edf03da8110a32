-- Whatever the lists hold, the length of the memory stays, and so do all bytes past the string.
use Rattle.std.proofs.Common.{◌≡◌, ℕ, zero, suc, ◌+◌, ◌*◌, ◌<◌, ◌≤◌, true, ltb, leb, List, [], ◌∷◌, map, length, get_or, drop, Some, None, Option, refl, ◌∙◌, arith}
use Rattle.std.proofs.lemmas.Bool.{leb-true, and_parts, cond_both}
use Rattle.runs.specs.Plates.{two, record_field}
use Rattle.graph.specs.declared.rows.Row.{Row}
use Rattle.graph.specs.declared.rows.Vertex.{Vertex}
use Rattle.graph.specs.Chains.{row}
use Rattle.fields.specs.Writing.{written}
use Rattle.fields.specs.Parts.{header, values_head, value_place, record_place, no_entry}
use Rattle.fields.proofs.Written.{length_written, drop_kept}
use Rattle.fields.proofs.Spelled.{length_record}
use Rattle.sealing.specs.Sealing.{row_entry, seal_length, seal_fits, front_written, values_written, slot_written, records_written, sealed}

-- what the test of the lengths says
pub record Fitted (n r memory vertices slots : ℕ) : Type 0 where
  pub room : seal_length n r ≤ memory
  pub vertices_there : 2 * r ≤ vertices
  pub slots_there : n ≤ slots

pub fitted : (n r memory vertices slots : ℕ) → seal_fits n r memory vertices slots ≡ true → Fitted n r memory vertices slots
fitted n r memory vertices slots h =
    let a = and_parts (leb (seal_length n r) memory) _ h in
    let b = and_parts (leb (2 * r) vertices) (leb n slots) a.1 in
    record { room = leb-true (seal_length n r) memory a.0; vertices_there = leb-true (2 * r) vertices b.0; slots_there = leb-true n slots b.1 }

-- the length and all bytes past a place
pub record Kept (len : ℕ) (old memory : List ℕ) : Type 0 where
  pub same_length : length memory ≡ length old
  pub behind : drop len memory ≡ drop len old

-- a write before the place keeps them
kept_written : (len at : ℕ) (xs old m : List ℕ) → at + length xs ≤ len → len ≤ length old → Kept len old m → Kept len old (written at xs m)
kept_written len at xs old m h room k =
    let fits : at + length xs ≤ length m = omega (arith, k.same_length) in
    record { same_length = length_written at xs m fits ∙ k.same_length; behind = drop_kept len at xs m h fits ∙ k.behind }

-- an entry that a row gives, or that stands for none, has at most 16 bytes
pub short_entry : {N : Type 0} (spell : N → List ℕ) → ((x : N) → length (spell x) ≤ 16) → (rows : List (Row N)) (i : ℕ) → length (get_or (map (row_entry spell) rows) i no_entry).spelling ≤ 16
short_entry spell few [] i = omega arith
short_entry spell few (x ∷ rows) zero = few x.name
short_entry spell few (x ∷ rows) (suc i) = short_entry spell few rows i

module _ (n r : ℕ) (old : List ℕ) (room : seal_length n r ≤ length old) where
  kept_front : (kind seed : ℕ) → Kept (seal_length n r) old (front_written kind n r seed old)
  kept_front kind seed =
      kept_written (seal_length n r) 18 (values_head r) old _ (omega arith) room
      (kept_written (seal_length n r) 0 (header kind n r seed) old old (omega arith) room (record { same_length = refl; behind = refl }))

  kept_values : (vertices : List Vertex) (m : ℕ) (memory : List ℕ) → m ≤ 2 * r → Kept (seal_length n r) old memory → Kept (seal_length n r) old (values_written vertices m memory)
  kept_values vertices zero memory h k = k
  kept_values vertices (suc m) memory h k =
      kept_written (seal_length n r) (value_place m) (two (row vertices m).value) old _ (omega arith) room (kept_values vertices m memory (omega arith) k)

  module _ {N : Type 0} (spell : N → List ℕ) (few : (x : N) → length (spell x) ≤ 16) (rows : List (Row N)) where
    kept_slot : (k : ℕ) (o : Option ℕ) (memory : List ℕ) → k < n → Kept (seal_length n r) old memory → Kept (seal_length n r) old (slot_written spell rows r k o memory)
    kept_slot k None memory h e = e
    kept_slot k (Some i) memory h e =
        let x = get_or (map (row_entry spell) rows) i no_entry in
        let l : length (record_field x) ≡ 22 = length_record x (short_entry spell few rows i) in
        cond_both (ltb i (length rows)) (written (record_place r k) (record_field x) memory) memory (λ m. Kept (seal_length n r) old m)
        (λ _. kept_written (seal_length n r) (record_place r k) (record_field x) old memory (omega arith) room e) (λ _. e)

    kept_records : (slots : List (Option ℕ)) (m : ℕ) (memory : List ℕ) → m ≤ n → Kept (seal_length n r) old memory → Kept (seal_length n r) old (records_written spell rows slots r m memory)
    kept_records slots zero memory h k = k
    kept_records slots (suc m) memory h k = kept_slot m (get_or slots m None) _ (omega arith) (kept_records slots m memory (omega arith) k)

    pub kept_sealed : (kind seed : ℕ) (vertices : List Vertex) (slots : List (Option ℕ)) → Kept (seal_length n r) old (sealed kind spell n r seed rows vertices slots old)
    kept_sealed kind seed vertices slots = kept_records slots n _ (omega arith) (kept_values vertices (2 * r) _ (omega arith) (kept_front kind seed))
