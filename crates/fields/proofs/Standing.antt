-- Memory into which some parts of a plate's string have been written.
use Rattle.std.proofs.Common.{◌≡◌, ℕ, ◌+◌, ◌≤◌, false, ◌⊎◌, List, [], ◌∷◌, length, get_or, take, sym, refl, ap, ◌∙◌, subst, inl, inr, arith}
use Rattle.std.proofs.lemmas.List.{length-take-le}
use Rattle.std.proofs.lemmas.Bool.{cases_order}
use Rattle.runs.specs.Plates.{Plate, plate_string}
use Rattle.fields.specs.Writing.{written, part}
use Rattle.fields.specs.Parts.{string_length, no_entry, Part, the_header, the_values_head, value_of, record_in, Has, place, bytes, Measured, Among, write_all, HoldsTheString, AnyOrderGivesTheString, Stands, Those, NoneStands, OneMoreStands, AllAreTheString}
use Rattle.fields.proofs.Written.{length_written, shows, spares, drop_kept}
use Rattle.fields.proofs.Spelled.{length_record}
use Rattle.fields.proofs.Cuts.{part_take}
use Rattle.fields.proofs.Composed.{composes, front_composes}

abbrev size : Part → ℕ
size the_header = 18
size the_values_head = 3
size (value_of k) = 2
size (record_in i) = 22

pub length_bytes : (kind : ℕ) (p : Plate) (q : Part) → Measured p → Has p q → length (bytes kind p q) ≡ size q
length_bytes kind p the_header w h = refl
length_bytes kind p the_values_head w h = refl
length_bytes kind p (value_of k) w h = refl
length_bytes kind p (record_in i) w h = length_record (get_or p.records i no_entry) (w.short_spellings i h)

pub within : (p : Plate) (q : Part) → Has p q → place p q + size q ≤ string_length p
within p the_header h = omega arith
within p the_values_head h = omega arith
within p (value_of k) h = omega arith
within p (record_in i) h = omega arith

-- two parts are one, or do not overlap
abbrev Apart : Plate → Part → Part → Type 0
Apart p a b = (a ≡ b) ⊎ ((place p a + size a ≤ place p b) ⊎ (place p b + size b ≤ place p a))

-- two of a row of parts of one width
values_apart : (p : Plate) (i j : ℕ) → Apart p (value_of i) (value_of j)
values_apart p i j =
    elim (cases_order i j) [ inl e ↦ inl (ap value_of e) | inr o ↦ inr (elim o [ inl l ↦ inl (omega arith) | inr l ↦ inr (omega arith) ]) ]

records_apart : (p : Plate) (i j : ℕ) → Apart p (record_in i) (record_in j)
records_apart p i j =
    elim (cases_order i j) [ inl e ↦ inl (ap record_in e) | inr o ↦ inr (elim o [ inl l ↦ inl (omega arith) | inr l ↦ inr (omega arith) ]) ]

apart : (p : Plate) (a b : Part) → Has p a → Has p b → Apart p a b
apart p the_header the_header h k = inl refl
apart p the_header the_values_head h k = inr (inl (omega arith))
apart p the_header (value_of j) h k = inr (inl (omega arith))
apart p the_header (record_in j) h k = inr (inl (omega arith))
apart p the_values_head the_header h k = inr (inr (omega arith))
apart p the_values_head the_values_head h k = inl refl
apart p the_values_head (value_of j) h k = inr (inl (omega arith))
apart p the_values_head (record_in j) h k = inr (inl (omega arith))
apart p (value_of i) the_header h k = inr (inr (omega arith))
apart p (value_of i) the_values_head h k = inr (inr (omega arith))
apart p (value_of i) (value_of j) h k = values_apart p i j
apart p (value_of i) (record_in j) h k = inr (inl (omega arith))
apart p (record_in i) the_header h k = inr (inr (omega arith))
apart p (record_in i) the_values_head h k = inr (inr (omega arith))
apart p (record_in i) (value_of j) h k = inr (inr (omega arith))
apart p (record_in i) (record_in j) h k = records_apart p i j

fewer : (kind : ℕ) (p : Plate) (Done Less : Part → Type 0) (old m : List ℕ) → ((x : Part) → Less x → Done x) → Stands kind p Done old m → Stands kind p Less old m
fewer kind p Done Less old m f st = record { long = st.long; at_place = λ q h d. st.at_place q h (f q d); behind = st.behind }

none : (kind : ℕ) (p : Plate) (old : List ℕ) → Stands kind p (λ x. ⊥) old old
none kind p old = record { long = refl; at_place = λ q h n. absurd n; behind = refl }

one_more : (kind : ℕ) (p : Plate) (Done More : Part → Type 0) (q : Part) (old m : List ℕ) → Measured p → string_length p ≤ length old → Has p q →
    ((x : Part) → More x → Done x ⊎ (x ≡ q)) → Stands kind p Done old m → Stands kind p More old (written (place p q) (bytes kind p q) m)
one_more kind p Done More q old m w room h f st =
    let xs = bytes kind p q in
    let lx : length xs ≡ size q = length_bytes kind p q w h in
    let low : place p q + length xs ≤ string_length p = omega (arith, within p q h) in
    let fits : place p q + length xs ≤ length m = omega (arith, st.long) in
    let new = written (place p q) xs m in
    let At = λ (x : Part). part (place p x) (length (bytes kind p x)) new ≡ bytes kind p x in
    let here : (x : Part) → x ≡ q → At x = λ x e. subst At (sym e) (shows (place p q) xs m fits) in
    let kept : (x : Part) → Has p x → (place p x + size x ≤ place p q) ⊎ (place p q + size q ≤ place p x) → Done x → At x =
    λ x hx a d. let ly : length (bytes kind p x) ≡ size x = length_bytes kind p x w hx in
    let out : (place p x + length (bytes kind p x) ≤ place p q) ⊎ (place p q + length xs ≤ place p x) = elim a [ inl l ↦ inl (omega arith) | inr l ↦ inr (omega arith) ] in
    spares (place p q) (place p x) (length (bytes kind p x)) xs m fits out ∙ st.at_place x hx d in
    record {
      long = length_written (place p q) xs m fits ∙ st.long;
      at_place = λ x hx d. elim (apart p x q hx h) [ inl e ↦ here x e | inr a ↦ elim (f x d) [ inl dx ↦ kept x hx a dx | inr e ↦ here x e ] ];
      behind = drop_kept (string_length p) (place p q) xs m low fits ∙ st.behind;
    }

all_done : (kind : ℕ) (p : Plate) (Done : Part → Type 0) (old m : List ℕ) → Measured p → string_length p ≤ length old →
    ((q : Part) → Has p q → Done q) → Stands kind p Done old m → HoldsTheString kind p old m
all_done kind p Done old m w room all st =
    let to = string_length p in
    let s = take to m in
    let long : length s ≡ to = length-take-le to m (omega (arith, st.long)) in
    let shown : (q : Part) → Has p q → part (place p q) (size q) s ≡ bytes kind p q =
    λ q h. part_take (place p q) (size q) to m (within p q h) ∙ ap (λ k. part (place p q) k m) (sym (length_bytes kind p q w h)) ∙ st.at_place q h (all q h) in
    let whole : s ≡ plate_string kind p =
    composes kind p s long (front_composes kind p s w.value_count (shown the_header tt) (shown the_values_head tt) (λ k h. shown (value_of k) h)) (λ i h. shown (record_in i) h) in
    record { string = whole; behind = st.behind }

row : (kind : ℕ) (p : Plate) (Done More : Part → Type 0) (qs : List Part) (old m : List ℕ) → Measured p → string_length p ≤ length old →
    ((x : Part) → Among x qs → Has p x) → ((x : Part) → More x → Done x ⊎ Among x qs) → Stands kind p Done old m → Stands kind p More old (write_all kind p qs m)
row kind p Done More [] old m w room has f st = fewer kind p Done More old m (λ x d. elim (f x d) [ inl a ↦ a | inr n ↦ absurd n ]) st
row kind p Done More (q ∷ qs) old m w room has f st =
    let Next = λ (x : Part). Done x ⊎ (x ≡ q) in
    row kind p Next More qs old (written (place p q) (bytes kind p q) m) w room (λ x a. has x (inr a))
    (λ x d. elim (f x d) [ inl a ↦ inl (inl a) | inr b ↦ elim b [ inl e ↦ inl (inr e) | inr a ↦ inr a ] ])
    (one_more kind p Done Next q old m w room (has q (inl refl)) (λ x d. d) st)

pub any_order : AnyOrderGivesTheString
any_order kind p qs old w room has all =
    all_done kind p (λ x. Among x qs) old (write_all kind p qs old) w room all
    (row kind p (λ x. ⊥) (λ x. Among x qs) qs old old w room has (λ x a. inr a) (none kind p old))

pub none_stands : NoneStands
none_stands kind p old = fewer kind p (λ x. ⊥) (Those (λ x. false)) old old (λ x e. cc) (none kind p old)

pub one_more_stands : OneMoreStands
one_more_stands kind p done more = one_more kind p (Those done) (Those more)

pub all_are_the_string : AllAreTheString
all_are_the_string kind p done = all_done kind p (Those done)
