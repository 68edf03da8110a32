-- A plate in the work lists of its pressing, and what `write_plate` answers and leaves.
use Rattle.std.specs.Prelude.{◌≡◌, ℕ, zero, suc, ◌+◌, ◌*◌, ◌<◌, Bool, true, false, cond, ◌&&◌, List, map, length, take, drop, Some, None, Option, nat_le, nat_lt, slice_index, slice_index_or}
use Rattle.runs.specs.Plates.{Entry, Plate, two, record_field, plate_string}
use Rattle.graph.specs.declared.rows.Row.{Row}
use Rattle.graph.specs.declared.rows.Vertex.{Vertex}
use Rattle.graph.specs.Chains.{row}
use Rattle.fields.specs.Writing.{written}
use Rattle.fields.specs.Parts.{header, values_head, value_place, record_place, no_entry}

-- the entry that a row gives, where `spell` tells spellings
abbrev pub row_entry : {N : Type 0} → (N → List ℕ) → Row N → Entry
row_entry spell x = record { spelling = spell x.name; setting = x.setting }

-- a plate stands in the lists: its numbers, the values in the vertices, and for each slot the row of its record
pub record Laid {N : Type 0} (spell : N → List ℕ) (p : Plate) (n r seed : ℕ) (rows : List (Row N)) (vertices : List Vertex) (slots : List (Option ℕ)) : Type 0 where
  pub same_n : length p.records ≡ n
  pub same_r : p.r ≡ r
  pub same_seed : p.seed ≡ seed
  pub value_count : length p.values ≡ 2 * r
  pub values : (u : ℕ) → u < 2 * r → (row vertices u).value ≡ slice_index p.values u
  pub record_of : (k : ℕ) → k < n → (i : ℕ) × (i < length rows) × (slice_index_or slots k None ≡ Some i) × (slice_index_or (map (row_entry spell) rows) i no_entry ≡ slice_index_or p.records k no_entry)

-- the length of the string of n records and 2r values
abbrev pub seal_length : ℕ → ℕ → ℕ
seal_length n r = 21 + 4 * r + 22 * n

-- memory of this length has room for the string, and the lists have 2r vertices and n slots
abbrev pub seal_fits : ℕ → ℕ → ℕ → ℕ → ℕ → Bool
seal_fits n r memory vertices slots = nat_le (seal_length n r) memory && (nat_le (2 * r) vertices && nat_le n slots)

-- memory after the fields of kind, sizes and seed, and the head of the values field
abbrev pub front_written : ℕ → ℕ → ℕ → ℕ → List ℕ → List ℕ
front_written kind n r seed memory = written 18 (values_head r) (written 0 (header kind n r seed) memory)

-- after the values of the first m vertices
abbrev pub values_written : List Vertex → ℕ → List ℕ → List ℕ
values_written vertices zero memory = memory
values_written vertices (suc m) memory = written (value_place m) (two (row vertices m).value) (values_written vertices m memory)

-- after the record of one slot, which there is only if it holds the number of a row
abbrev pub slot_written : {N : Type 0} → (N → List ℕ) → List (Row N) → ℕ → ℕ → Option ℕ → List ℕ → List ℕ
slot_written spell rows r k None memory = memory
slot_written spell rows r k (Some i) memory = cond (nat_lt i (length rows)) (written (record_place r k) (record_field (slice_index_or (map (row_entry spell) rows) i no_entry)) memory) memory

-- after the records of the first m slots
abbrev pub records_written : {N : Type 0} → (N → List ℕ) → List (Row N) → List (Option ℕ) → ℕ → ℕ → List ℕ → List ℕ
records_written spell rows slots r zero memory = memory
records_written spell rows slots r (suc m) memory = slot_written spell rows r m (slice_index_or slots m None) (records_written spell rows slots r m memory)

-- after all of them
abbrev pub sealed : {N : Type 0} → ℕ → (N → List ℕ) → ℕ → ℕ → ℕ → List (Row N) → List Vertex → List (Option ℕ) → List ℕ → List ℕ
sealed kind spell n r seed rows vertices slots memory = records_written spell rows slots r n (values_written vertices (2 * r) (front_written kind n r seed memory))

-- the memory or a list was too short, and nothing has changed
pub record SealRefused (fits : Bool) (memory memory' : List ℕ) : Type 0 where
  pub short : fits ≡ false
  pub same : memory' ≡ memory

-- the string's length is answered, and all bytes past it are as they were; where a plate stands in the lists, memory begins with its string
pub record SealWritten {N : Type 0} (fits : Bool) (kind : ℕ) (spell : N → List ℕ) (n r seed : ℕ) (rows : List (Row N)) (vertices : List Vertex) (slots : List (Option ℕ)) (memory memory' : List ℕ) (answer : ℕ) : Type 0 where
  pub long : fits ≡ true
  pub whole : answer ≡ seal_length n r
  pub same_length : length memory' ≡ length memory
  pub behind : drop (seal_length n r) memory' ≡ drop (seal_length n r) memory
  pub written_parts : memory' ≡ sealed kind spell n r seed rows vertices slots memory
  pub exact : (p : Plate) → Laid spell p n r seed rows vertices slots → take (seal_length n r) memory' ≡ plate_string kind p
