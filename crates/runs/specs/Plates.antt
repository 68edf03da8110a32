-- A plate, what a look-up in it answers, and its string.
use Rattle.std.specs.Prelude.{◌≡◌, ℕ, ◌-◌, ◌*◌, ◌/◌, ◌%◌, ◌<◌, ◌≤◌, cond, List, [], ◌∷◌, ◌++◌, map, length, replicate, Some, None, Option, ◌==◌, slice_index, slice_index_or}
use Rattle.std.specs.List.{range_with_len}
use Rattle.hashing.specs.Generator.{tables}
use Rattle.hashing.specs.Triples.{triple}
use Rattle.std.specs.Str.{bytes_eq}
use Rattle.runs.specs.Fitting.{slot}

-- a name's spelling with its setting
pub record Entry : Type 0 where
  pub spelling : List ℕ
  pub setting : ℕ

-- a plate: n records, that of slot k at place k; r, the seed and the values of the vertices tell each name its slot
pub record Plate : Type 0 where
  pub r : ℕ
  pub seed : ℕ
  pub values : List ℕ
  pub records : List Entry

-- the slot that a plate's own seed and values give a spelling
abbrev pub slot_of : Plate → List ℕ → ℕ
slot_of p s = slot (length p.records) p.values (triple (tables p.seed) (length p.records) p.r s)

-- a plate is lawful if it keeps the ranges, each record has the spelling of a name, and stands in its own slot
pub record Lawful (Spelled : List ℕ → Type 0) (p : Plate) : Type 0 where
  pub some_name : 1 ≤ length p.records
  pub few_names : length p.records ≤ 1024
  pub some_vertex : 1 ≤ p.r
  pub few_vertices : p.r ≤ 1024
  pub seed_low : 1 ≤ p.seed
  pub seed_high : p.seed ≤ 2147483646
  pub value_count : length p.values ≡ 2 * p.r
  pub values_low : (k : ℕ) → k < 2 * p.r → slice_index p.values k < length p.records
  pub settings_low : (k : ℕ) (d : Entry) → k < length p.records → (slice_index_or p.records k d).setting < 65536
  pub spelled : (k : ℕ) (d : Entry) → k < length p.records → Spelled (slice_index_or p.records k d).spelling
  pub in_slot : (k : ℕ) (d : Entry) → k < length p.records → slot_of p (slice_index_or p.records k d).spelling ≡ k

-- what one entry answers for some bytes: its setting if they are its spelling, else absent
abbrev pub one_look : Entry → List ℕ → Option ℕ
one_look e s = cond (bytes_eq e.spelling s) (Some e.setting) None

-- what entries answer for some bytes: the setting of the first whose spelling they are, else absent
abbrev pub find : List Entry → List ℕ → Option ℕ
find [] s = None
find (e ∷ es) s = cond (bytes_eq e.spelling s) (Some e.setting) (find es s)

-- by a slot for each spelling, the first of some entries in the slot k
abbrev pub in_place : (List ℕ → ℕ) → ℕ → List Entry → Entry
in_place h k [] = record { spelling = []; setting = 0 }
in_place h k (e ∷ es) = cond (h e.spelling == k) e (in_place h k es)

-- entries put into the order of their slots, 0 to n - 1
abbrev pub by_slot : (List ℕ → ℕ) → ℕ → List Entry → List Entry
by_slot h n es = map (λ k. in_place h k es) (range_with_len 0 n)

-- The plate string: fields of a tag, a length in two bytes and a payload, numbers high byte first.
abbrev pub two : ℕ → List ℕ
two x = x / 256 ∷ x % 256 ∷ []

abbrev pub four : ℕ → List ℕ
four x = x / 16777216 ∷ x / 65536 % 256 ∷ x / 256 % 256 ∷ x % 256 ∷ []

abbrev pub field : ℕ → List ℕ → List ℕ
field tag payload = tag ∷ two (length payload) ++ payload

abbrev pub padded : List ℕ → List ℕ
padded s = s ++ replicate (16 - length s) 0

abbrev pub concat : List (List ℕ) → List ℕ
concat [] = []
concat (x ∷ xs) = x ++ concat xs

-- setting, length of the spelling, and the spelling in 16 bytes
abbrev pub record_field : Entry → List ℕ
record_field e = field 5 (two e.setting ++ length e.spelling ∷ padded e.spelling)

-- the string of a plate for one kind of name: kind number, n and r, seed, values, records
abbrev pub plate_string : ℕ → Plate → List ℕ
plate_string kind p =
    field 1 (kind ∷ []) ++
    field 2 (two (length p.records) ++ two p.r) ++
    field 3 (four p.seed) ++
    field 4 (concat (map two p.values)) ++
    concat (map record_field p.records)
