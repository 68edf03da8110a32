-- Checks in their order, each with its fault, and what a call that makes them answers.
use Rattle.std.specs.Prelude.{◌≡◌, ℕ, zero, suc, Bool, true, false, List, [], ◌∷◌, Some, None, Ok, Err, Option, Result}

-- the check of one rule: its fault unless the rule is met
abbrev pub unless : {F : Type 0} → Bool → F → Option F
unless true f = None
unless false f = Some f

-- the first of two faults
abbrev pub or : {F : Type 0} → Option F → Option F → Option F
or None g = g
or (Some f) g = Some f

-- the first fault of several checks
abbrev pub first : {F : Type 0} → List (Option F) → Option F
first [] = None
first (o ∷ os) = or o (first os)

-- the first fault of the checks numbered i, i + 1, .. (k of them)
abbrev pub each : {F : Type 0} → (ℕ → Option F) → ℕ → ℕ → Option F
each check i zero = None
each check i (suc k) = or (check i) (each check (suc i) k)

-- the value, or the fault
abbrev pub with_value : {X F : Type 0} → Option F → X → Result X F
with_value None x = Ok x
with_value (Some f) x = Err f

-- an answer is told by checks and a value: the value if every check is met, else the first fault
pub record Told {X F : Type 0} (checks : List (Option F)) (x : X) (r : Result X F) : Type 0 where
  pub is : r ≡ with_value (first checks) x

-- an answer by a fault and a property: what is made has the property and nothing was at fault, or the fault is told
abbrev pub Answered : {X F : Type 0} → Option F → (X → Type 0) → Result X F → Type 0
Answered fault P (Ok x) = (fault ≡ None) × P x
Answered fault P (Err f) = fault ≡ Some f
