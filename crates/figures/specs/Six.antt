-- The runs of the worked figures.
use Rattle.std.specs.Prelude.{ℕ, List, [], ◌∷◌, ◌++◌, replicate}
use Rattle.hashing.specs.Triples.{Triple}
use Rattle.ways.specs.Stride.{stride_meaning}
use Rattle.runs.specs.declared.stage.Stage.{Stage}
use Rattle.runs.specs.Runs.{Lent, Call, enter, map_to, order_by, fit, Run, step, reckoned}

-- the lengths that are always enough
abbrev pub lent : Lent
lent = record { rows = 1024; tables = 12288; edges = 1024; vertices = 2048; heap = 2048; ordered = 2048; slots = 1024 }

abbrev pub edge : ℕ → ℕ → ℕ → Triple
edge a b c = record { h0 = a; h1 = b; h2 = c }

abbrev pub six_triples : List Triple
six_triples = edge 2 0 5 ∷ edge 3 0 5 ∷ edge 0 2 3 ∷ edge 3 1 5 ∷ edge 5 1 3 ∷ edge 1 1 3 ∷ []

-- a name is its bytes
abbrev pub bytes : List ℕ → List ℕ
bytes s = s

-- N3, N51, N81, N93, N32, N90: with r 3 and seed 1 these names have the six triples
abbrev pub six_names : List (Call (List ℕ))
six_names =
    enter lent (78 ∷ 51 ∷ []) 1 ∷
    enter lent (78 ∷ 53 ∷ 49 ∷ []) 2 ∷
    enter lent (78 ∷ 56 ∷ 49 ∷ []) 3 ∷
    enter lent (78 ∷ 57 ∷ 51 ∷ []) 4 ∷
    enter lent (78 ∷ 51 ∷ 50 ∷ []) 5 ∷
    enter lent (78 ∷ 57 ∷ 48 ∷ []) 6 ∷
    map_to lent 3 1 ∷
    order_by lent ∷
    []

abbrev pub six_ordered : Run (List ℕ)
six_ordered = reckoned bytes six_names

-- so many levels fitted, by a stride way of size 6 with this start and the stride 1
abbrev pub fits : ℕ → ℕ → List (Call (List ℕ))
fits start k = replicate k (fit lent (stride_meaning 6 start 1))

abbrev pub six_fitted : Run (List ℕ)
six_fitted = reckoned bytes (six_names ++ fits 1 5)

-- the stage after each of some calls
abbrev pub stages : Run (List ℕ) → List (Call (List ℕ)) → List Stage
stages m [] = []
stages m (c ∷ cs) = (step bytes m c).stage ∷ stages (step bytes m c) cs

-- name A with setting 300, r 1, seed 1, fitted by a way of size 1
abbrev pub one_name : List (Call (List ℕ))
one_name =
    enter lent (65 ∷ []) 300 ∷ map_to lent 1 1 ∷ order_by lent ∷ fit lent (stride_meaning 1 0 1) ∷ fit lent (stride_meaning 1 0 1) ∷ []
