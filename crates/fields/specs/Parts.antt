-- The parts of a plate's string, each with its place and its bytes.
use Rattle.std.specs.Prelude.{◌≡◌, ℕ, ◌+◌, ◌*◌, ◌<◌, ◌≤◌, Bool, true, false, ◌⊎◌, List, [], ◌∷◌, ◌++◌, map, length, take, drop, slice_index, slice_index_or}
use Rattle.runs.specs.Plates.{Entry, Plate, two, four, field, concat, record_field, plate_string}
use Rattle.fields.specs.Writing.{written, part}

-- the fields of kind, sizes and seed
abbrev pub header : ℕ → ℕ → ℕ → ℕ → List ℕ
header kind n r seed = field 1 (kind ∷ []) ++ field 2 (two n ++ two r) ++ field 3 (four seed)

-- the tag of the values field and its length, two bytes for each of 2r values
abbrev pub values_head : ℕ → List ℕ
values_head r = 4 ∷ two (4 * r)

-- where the value of a vertex lies
abbrev pub value_place : ℕ → ℕ
value_place k = 21 + 2 * k

-- where the record of a slot lies
abbrev pub record_place : ℕ → ℕ → ℕ
record_place r i = 21 + 4 * r + 22 * i

-- the length of the string, which is where one record more would lie
abbrev pub string_length : Plate → ℕ
string_length p = record_place p.r (length p.records)

-- what stands where a plate has no record
abbrev pub no_entry : Entry
no_entry = record { spelling = []; setting = 0 }

-- the fields before the records
abbrev pub front : ℕ → Plate → List ℕ
front kind p = header kind (length p.records) p.r p.seed ++ field 4 (concat (map two p.values))

-- a string is whole once its front is written and each record is at its place, in whatever order they were written
abbrev pub Composes : Type 0
Composes =
    (kind : ℕ) (p : Plate) (s : List ℕ) → length s ≡ string_length p →
    part 0 (21 + 4 * p.r) s ≡ front kind p →
    ((i : ℕ) → i < length p.records → part (record_place p.r i) 22 s ≡ record_field (slice_index_or p.records i no_entry)) →
    s ≡ plate_string kind p

-- what is written at once: the header, the head of the values field, one value, one record
pub data Part : Type 0 where
  the_header : Part
  the_values_head : Part
  value_of : ℕ → Part
  record_in : ℕ → Part

-- the parts of a plate's string: a value for each of 2r vertices, a record for each slot
abbrev pub Has : Plate → Part → Type 0
Has p the_header = Unit {0}
Has p the_values_head = Unit {0}
Has p (value_of k) = k < 2 * p.r
Has p (record_in i) = i < length p.records

-- where a part lies
abbrev pub place : Plate → Part → ℕ
place p the_header = 0
place p the_values_head = 18
place p (value_of k) = value_place k
place p (record_in i) = record_place p.r i

-- and its bytes
abbrev pub bytes : ℕ → Plate → Part → List ℕ
bytes kind p the_header = header kind (length p.records) p.r p.seed
bytes kind p the_values_head = values_head p.r
bytes kind p (value_of k) = two (slice_index p.values k)
bytes kind p (record_in i) = record_field (slice_index_or p.records i no_entry)

-- a plate has 2r values, and no spelling above 16 bytes
pub record Measured (p : Plate) : Type 0 where
  pub value_count : length p.values ≡ 2 * p.r
  pub short_spellings : (i : ℕ) → i < length p.records → length (slice_index_or p.records i no_entry).spelling ≤ 16

-- a part is in a list
abbrev pub Among : Part → List Part → Type 0
Among q [] = ⊥
Among q (x ∷ xs) = (q ≡ x) ⊎ Among q xs

-- parts written one after the other
abbrev pub write_all : ℕ → Plate → List Part → List ℕ → List ℕ
write_all kind p [] memory = memory
write_all kind p (q ∷ qs) memory = write_all kind p qs (written (place p q) (bytes kind p q) memory)

-- memory that begins with a plate's string, and behind it is as it was
pub record HoldsTheString (kind : ℕ) (p : Plate) (old memory : List ℕ) : Type 0 where
  pub string : take (string_length p) memory ≡ plate_string kind p
  pub behind : drop (string_length p) memory ≡ drop (string_length p) old

-- memory that is long enough holds a plate's string once each of its parts was written, in whatever order and however often
abbrev pub AnyOrderGivesTheString : Type 0
AnyOrderGivesTheString =
    (kind : ℕ) (p : Plate) (qs : List Part) (old : List ℕ) → Measured p → string_length p ≤ length old →
    ((q : Part) → Among q qs → Has p q) → ((q : Part) → Has p q → Among q qs) →
    HoldsTheString kind p old (write_all kind p qs old)

-- for writing in loops: every part that is Done is at its place in memory, and what lies behind the string is as it was
pub record Stands (kind : ℕ) (p : Plate) (Done : Part → Type 0) (old memory : List ℕ) : Type 0 where
  pub long : length memory ≡ length old
  pub at_place : (q : Part) → Has p q → Done q → part (place p q) (length (bytes kind p q)) memory ≡ bytes kind p q
  pub behind : drop (string_length p) memory ≡ drop (string_length p) old

-- the parts that a test says yes to
abbrev pub Those : (Part → Bool) → Part → Type 0
Those test q = test q ≡ true

-- at first none is done
abbrev pub NoneStands : Type 0
NoneStands = (kind : ℕ) (p : Plate) (old : List ℕ) → Stands kind p (Those (λ q. false)) old old

-- a write of one part adds that one
abbrev pub OneMoreStands : Type 0
OneMoreStands =
    (kind : ℕ) (p : Plate) (done more : Part → Bool) (q : Part) (old memory : List ℕ) → Measured p → string_length p ≤ length old →
    Has p q → ((x : Part) → Those more x → Those done x ⊎ (x ≡ q)) →
    Stands kind p (Those done) old memory → Stands kind p (Those more) old (written (place p q) (bytes kind p q) memory)

-- once all are done, memory holds the string
abbrev pub AllAreTheString : Type 0
AllAreTheString =
    (kind : ℕ) (p : Plate) (done : Part → Bool) (old memory : List ℕ) → Measured p → string_length p ≤ length old →
    ((q : Part) → Has p q → Those done q) → Stands kind p (Those done) old memory →
    HoldsTheString kind p old memory
