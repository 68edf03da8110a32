-- Levels, and the rotations that fit them. n is the number of names, and of slots.
use Rattle.std.specs.Prelude.{◌≡◌, ℕ, zero, suc, ◌+◌, ◌%◌, ◌<◌, Bool, true, false, cond, not, ◌&&◌, ◌⊎◌, List, [], ◌∷◌, map, length, Some, None, filter, Option, ◌==◌, slice_index}
use Rattle.hashing.specs.Triples.{Triple}
use Rattle.runs.specs.Lists.{among, Distinct}
use Rattle.runs.specs.Order.{joins}

-- the slot of a name: each vertex has a value
abbrev pub slot : ℕ → List ℕ → Triple → ℕ
slot n values e = (e.h0 + slice_index values e.h1 + slice_index values e.h2) % n

-- the level of v: the names whose edge joins it to one of the earlier vertices vs
abbrev pub level_of : List Triple → List ℕ → ℕ → List Triple
level_of es vs v = filter (joins vs v) es

-- the other end of an edge at v
abbrev pub far_end : ℕ → Triple → ℕ
far_end v e = cond (v == e.h1) e.h2 e.h1

-- the offset of a name in the level of v: its slot as long as v has the value 0
abbrev pub offset : ℕ → List ℕ → ℕ → Triple → ℕ
offset n values v e = (e.h0 + slice_index values (far_end v e)) % n

-- the slots that the rotation x gives to offsets
abbrev pub turned : ℕ → ℕ → List ℕ → List ℕ
turned n x bs = map (λ b. (b + x) % n) bs

-- a rotation fits if the slots that it gives are all empty and all different
pub record AllFree (filled ss : List ℕ) : Type 0 where
  pub empty : (i : ℕ) → i < length ss → among (slice_index ss i) filled ≡ false
  pub different : Distinct 0 ss

-- a name gets a filled slot
pub record IntoFilled (filled ss : List ℕ) : Type 0 where
  pub name : ℕ
  pub within : name < length ss
  pub taken : among (slice_index ss name) filled ≡ true

-- two names get one slot
pub record TwoInOne (ss : List ℕ) : Type 0 where
  pub one : ℕ
  pub other : ℕ
  pub before : one < other
  pub within : other < length ss
  pub same : slice_index ss one ≡ slice_index ss other

abbrev pub Blocked : List ℕ → List ℕ → Type 0
Blocked filled ss = IntoFilled filled ss ⊎ TwoInOne ss

-- the test of a fit
abbrev pub free : List ℕ → List ℕ → Bool
free filled [] = true
free filled (s ∷ ss) = not (among s filled) && (not (among s ss) && free filled ss)

-- the first of the steps j, j + 1, .. (k of them) whose rotation fits: the rotation, and the tries
abbrev pub first_fit : ℕ → (ℕ → ℕ) → List ℕ → List ℕ → ℕ → ℕ → Option (ℕ × ℕ)
first_fit n rotation filled bs zero j = None
first_fit n rotation filled bs (suc k) j =
    cond (free filled (turned n (rotation j) bs)) (Some (rotation j, suc j)) (first_fit n rotation filled bs k (suc j))

-- a name is settled by the vertices vs if both ends of its edge are among them
abbrev pub settles : List ℕ → Triple → Bool
settles vs e = among e.h1 vs && among e.h2 vs
