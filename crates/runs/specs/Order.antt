-- The graph of a pressing, and the order of its vertices.
-- Each name is an edge that joins the vertices h1 and h2 of its triple; the vertices are 0 to 2r - 1.
use Rattle.std.specs.Prelude.{◌≡◌, ℕ, zero, suc, ◌+◌, ◌*◌, ◌<◌, ◌≤◌, Bool, true, false, cond, not, ◌&&◌, ◌||◌, ◌⊎◌, List, [], ◌∷◌, ◌++◌, length, take, Some, None, Option, ◌==◌, nat_lt, slice_index}
use Rattle.std.specs.Option.{option_or}
use Rattle.hashing.specs.Triples.{Triple}
use Rattle.runs.specs.Lists.{among}

-- the edge e ends at v
abbrev pub touches : ℕ → Triple → Bool
touches v e = v == e.h1 || v == e.h2

-- the degree of a vertex counts its edges, each parallel one too
abbrev pub degree : List Triple → ℕ → ℕ
degree [] v = 0
degree (e ∷ es) v = cond (touches v e) 1 0 + degree es v

-- the edge e joins v to one of the vertices vs
abbrev pub joins : List ℕ → ℕ → Triple → Bool
joins vs v e = (v == e.h1 && among e.h2 vs) || (v == e.h2 && among e.h1 vs)

-- some edge does
abbrev pub joined : List Triple → List ℕ → ℕ → Bool
joined [] vs v = false
joined (e ∷ es) vs v = joins vs v e || joined es vs v

-- v is not ordered, where vs are; and besides, v shares an edge with an ordered vertex
abbrev pub waits : List ℕ → ℕ → Bool
waits vs v = not (among v vs)

abbrev pub waits_joined : List Triple → List ℕ → ℕ → Bool
waits_joined es vs v = not (among v vs) && joined es vs v

-- The order as a relation.

-- v is, of the numbers below m that pass the test, the lowest of greatest weight, which is above 0
pub record Best (weight : ℕ → ℕ) (ok : ℕ → Bool) (m v : ℕ) : Type 0 where
  pub passes : ok v ≡ true
  pub below : v < m
  pub above_zero : 0 < weight v
  pub greatest_weight : (u : ℕ) → u < m → ok u ≡ true → weight u ≤ weight v
  pub lowest : (u : ℕ) → u < m → ok u ≡ true → weight u ≡ weight v → v ≤ u

-- v comes after the vertices vs: the best of those that wait and are joined to them, or, if there is none, of all that wait
abbrev pub Next : List Triple → ℕ → List ℕ → ℕ → Type 0
Next es r vs v =
    Best (degree es) (waits_joined es vs) (2 * r) v ⊎
    (((u : ℕ) → u < 2 * r → waits_joined es vs u ≡ true → degree es u ≡ 0) × Best (degree es) (waits vs) (2 * r) v)

-- vs is the order: each vertex is next after those before it, and all of degree above 0 are there
pub record OrderOf (es : List Triple) (r : ℕ) (vs : List ℕ) : Type 0 where
  pub follows : (i : ℕ) → i < length vs → Next es r (take i vs) (slice_index vs i)
  pub complete : (u : ℕ) → u < 2 * r → 0 < degree es u → among u vs ≡ true

-- The order as computed.

-- v is better than the best so far
abbrev pub better : (ℕ → ℕ) → Option ℕ → ℕ → Bool
better weight None v = nat_lt 0 (weight v)
better weight (Some b) v = nat_lt (weight b) (weight v)

-- the best of v, v + 1, .. (k of them) that pass the test
abbrev pub greatest : (ℕ → ℕ) → (ℕ → Bool) → ℕ → ℕ → Option ℕ → Option ℕ
greatest weight ok zero v best = best
greatest weight ok (suc k) v best = greatest weight ok k (suc v) (cond (ok v && better weight best v) (Some v) best)

-- the vertex that comes after those in vs
abbrev pub following : List Triple → ℕ → List ℕ → Option ℕ
following es r vs =
    option_or (greatest (degree es) (waits_joined es vs) (2 * r) 0 None) (greatest (degree es) (waits vs) (2 * r) 0 None)

-- vertices one after the other as `next` says, k at most; o is the one that comes now
abbrev pub grown : (List ℕ → Option ℕ) → ℕ → List ℕ → Option ℕ → List ℕ
grown next zero vs o = vs
grown next (suc k) vs None = vs
grown next (suc k) vs (Some v) = grown next k (vs ++ v ∷ []) (next (vs ++ v ∷ []))

abbrev pub order : List Triple → ℕ → List ℕ
order es r = grown (following es r) (2 * r) [] (following es r [])
