-- The worked figures, as a list of statements.
use Rattle.std.specs.Prelude.{◌≡◌, ℕ, List, [], ◌∷◌, ◌++◌, map, replicate, Some, None, Ok, Err, Option}
use Rattle.std.specs.List.{range_with_len}
use Rattle.names.specs.Faults as names
use Rattle.names.specs.Cells.{cell_spelling, cell_fault}
use Rattle.hashing.specs.Generator.{drawn}
use Rattle.ways.specs.declared.fault.WayFault.TheVariants.{BrokenRule}
use Rattle.ways.specs.Faults as ways
use Rattle.ways.specs.Permutation.{asked}
use Rattle.ways.specs.Stride.{StrideRule, stride_meaning}
use Rattle.runs.specs.declared.stage.Stage.TheVariants.{Ordered, Fitted}
use Rattle.runs.specs.declared.fault.PressFault.TheVariants.{Unfit}
use Rattle.runs.specs.declared.answer.Outcome.TheVariants as answered
use Rattle.runs.specs.Order.{order}
use Rattle.runs.specs.Fitting.{slot}
use Rattle.runs.specs.Runs.{seal, graph, beginning, reckoned, answers, sealed_string}
use Rattle.figures.specs.Six.{lent, bytes, six_triples, six_names, six_ordered, six_fitted, fits, stages, one_name}

-- the 47 bytes
abbrev pub one_string : List ℕ
one_string =
    0x01 ∷ 0x00 ∷ 0x01 ∷ 0x01 ∷
    0x02 ∷ 0x00 ∷ 0x04 ∷ 0x00 ∷ 0x01 ∷ 0x00 ∷ 0x01 ∷
    0x03 ∷ 0x00 ∷ 0x04 ∷ 0x00 ∷ 0x00 ∷ 0x00 ∷ 0x01 ∷
    0x04 ∷ 0x00 ∷ 0x04 ∷ 0x00 ∷ 0x00 ∷ 0x00 ∷ 0x00 ∷
    0x05 ∷ 0x00 ∷ 0x13 ∷ 0x01 ∷ 0x2C ∷ 0x01 ∷ 0x41 ∷ replicate 15 0

-- the number of a refusal, or none
abbrev pub refused_with : {F : Type 0} → (F → ℕ) → Option F → Option ℕ
refused_with number None = None
refused_with number (Some f) = Some (number f)

-- each statement of a list holds
abbrev pub EachHolds : List (Type 0) → Type 0
EachHolds [] = Unit {0}
EachHolds (P ∷ Ps) = P × EachHolds Ps

abbrev pub figures : List (Type 0)
figures =
    -- seed 1 draws these first
    (drawn 3 1 ≡ 16807 ∷ 282475249 ∷ 1622650073 ∷ []) ∷
    -- pan 12, day 366 is a cell and is spelled so; day 367 is refused with 1
    (refused_with names.number (cell_fault 12 366) ≡ None) ∷
    (cell_spelling 12 366 ≡ 0 ∷ 12 ∷ 1 ∷ 110 ∷ []) ∷
    (refused_with names.number (cell_fault 12 367) ≡ Some 1) ∷
    -- a way of size 6 with start 0 and stride 5 tries these rotations; with stride 4 it breaks the rule, which is refused with 2
    (map (asked (stride_meaning 6 0 5) 0) (range_with_len 0 6) ≡ 0 ∷ 5 ∷ 4 ∷ 3 ∷ 2 ∷ 1 ∷ []) ∷
    (StrideRule 6 0 4 → ⊥) ∷
    (ways.number BrokenRule ≡ 2) ∷
    -- the order of six triples with r 3
    (order six_triples 3 ≡ 1 ∷ 3 ∷ 5 ∷ 0 ∷ 2 ∷ []) ∷
    -- six names that have these triples, entered, mapped and ordered
    (graph bytes six_ordered ≡ six_triples) ∷
    (answers bytes beginning six_names ≡ replicate 6 (Ok answered.Entered) ++ Ok answered.Mapped ∷ Ok (answered.Ordered 5) ∷ []) ∷
    -- fitted with start 1: rotations and tries, the stage after each fit, values and slots
    (answers bytes six_ordered (fits 1 5) ≡
    Ok (answered.Fitted 0 1) ∷ Ok (answered.Fitted 1 1) ∷ Ok (answered.Fitted 2 1) ∷ Ok (answered.Fitted 5 3) ∷ Ok (answered.Fitted 0 3) ∷ []) ∷
    (stages six_ordered (fits 1 5) ≡ Ordered ∷ Ordered ∷ Ordered ∷ Ordered ∷ Fitted ∷ []) ∷
    (six_fitted.values ≡ 5 ∷ 0 ∷ 0 ∷ 1 ∷ 0 ∷ 2 ∷ []) ∷
    (map (slot 6 six_fitted.values) (graph bytes six_fitted) ≡ 3 ∷ 4 ∷ 1 ∷ 5 ∷ 0 ∷ 2 ∷ []) ∷
    -- with start 0 level 3 is unfit
    (answers bytes six_ordered (fits 0 4) ≡
    Ok (answered.Fitted 0 1) ∷ Ok (answered.Fitted 0 1) ∷ Ok (answered.Fitted 0 1) ∷ Err (Unfit 3) ∷ []) ∷
    -- name A with setting 300, r 1 and seed 1 is sealed in 47 bytes
    (answers bytes (reckoned bytes one_name) (seal lent 47 ∷ []) ≡ Ok (answered.Sealed 47) ∷ []) ∷
    (sealed_string bytes 1 (reckoned bytes one_name) ≡ one_string) ∷
    []

abbrev pub FiguresHold : Type 0
FiguresHold = EachHolds figures
