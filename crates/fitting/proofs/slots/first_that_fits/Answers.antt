use Rattle.std.proofs.Common.{◌≡◌, ℕ, ◌+◌, ◌-◌, ◌%◌, ◌<◌, ◌≤◌, Bool, List, length, get_or, is_some, Some, None, Option, sym, refl, ap, ◌∙◌, arith, below_more}
use Rattle.ways.specs.Permutation.{asked}
use Rattle.runs.specs.Fitting.{first_fit, free, turned}
use Rattle.fitting.specs.declared.level.LevelName.{LevelName}
use Rattle.fitting.specs.Placing.{offsets, Apart}
use Rattle.fitting.proofs.Placed.{no_name, offset_at, length_offsets}
use Rattle.fitting.proofs.Trying.{alike_blocked, taken_blocked, empty_fits, none_fits, go_on, stop}
use Rattle.fitting.proofs.slots.first_that_fits.Goals as goal

pub are_apart-requires : goal.are_apart-requires
are_apart-requires g c =
    let law = g.met.W.Way.laws c.args.way.now in
    (omega (arith, law.some, c.size.ensures), omega (arith, law.most, c.size.ensures))

pub trying-init : goal.trying-init
trying-init g c =
    let n = length c.args.slots.now in
    let e : n - 0 ≡ n = omega arith in
    (omega arith, λ filled are. ap (λ k. first_fit n (asked (g.W.Way.meaning c.args.way.now) c.args.number) filled (offsets c.args.level.now) k 0) e)

pub returns-then-not-are_apart : goal.returns-then-not-are_apart
returns-then-not-are_apart g c =
    let n = length c.args.slots.now in
    let bs = offsets c.args.level.now in
    let no_apart : Apart n bs → ⊥ = c.if-not-are_apart.ensures.other refl in
    record {
      other_size = λ _. refl;
      first = λ e filled are. sym (none_fits n (asked (g.W.Way.meaning c.args.way.now) c.args.number) filled bs (alike_blocked n bs filled no_apart) n 0);
    }

-- the slot of the name at a place, as the code reads it
slot_read : (level : List LevelName) (slots : List (Option ℕ)) (n v k x y : ℕ) {t : Bool} → x ≡ (get_or level k no_name).offset → y ≡ v → t ≡ is_some (get_or slots ((x + y) % n) None) → is_some (get_or slots ((get_or (offsets level) k 0 + v) % n) None) ≡ t
slot_read level slots n v k x y a b e = (λ i. is_some (get_or slots (((offset_at level k ∙ sym a) i + sym b i) % n) None)) ∙ sym e

pub trying-preserved : goal.trying-preserved
trying-preserved g c =
    let w = g.W.Way.meaning c.args.way.now in
    let n = length c.args.slots.now in
    let level = c.args.level.now in
    let bs = offsets level in
    let v = c.rotation-v.result in
    let k = c.placing.name-index in
    let in_k : k < length bs = omega (arith, length_offsets level) in
    let some : 1 ≤ n = omega arith in (
      omega arith,
      λ filled are. go_on n (asked w c.args.number) filled bs c.trying.step (omega arith)
          (ap (λ x. free filled (turned n x bs)) (sym (c.rotation-v.ensures ∙ ap (asked w c.args.number) c.from-in-trying-2.ensures)) ∙ taken_blocked n bs filled c.args.slots.now refl some are v k in_k (slot_read level c.args.slots.now n v k _ _ c.from-in-placing.ensures c.from-in-placing-2.ensures c.if-is_some.ensures))
          (c.trying.invariant.1 filled are),
    )

pub placing-preserved : goal.placing-preserved
placing-preserved g c =
    below_more _ _ c.placing.invariant (slot_read c.args.level.now c.args.slots.now (length c.args.slots.now) c.rotation-v.result c.placing.name-index _ _ c.from-in-placing.ensures c.from-in-placing-2.ensures c.if-is_some.ensures)

pub returns : goal.returns
returns g c =
    let w = g.W.Way.meaning c.args.way.now in
    let n = length c.args.slots.now in
    let level = c.args.level.now in
    let bs = offsets level in
    let v = c.rotation-v.result in
    let step = c.trying.step in
    let some : 1 ≤ n = omega arith in
    let apart : Apart n bs = c.if-not-are_apart.ensures.yes refl in
    let is = c.rotation-v.ensures ∙ ap (asked w c.args.number) c.from-in-trying-2.ensures in
    record {
      other_size = λ no_size. absurd (no_size (sym c.size.ensures ∙ sym c.from.ensures ∙ c.if-from-n.false));
      first = λ e filled are.
          ap (λ x. Some (x, step + 1)) is
          ∙ stop n (asked w c.args.number) filled bs step (omega arith)
          (ap (λ x. free filled (turned n x bs)) (sym is) ∙ empty_fits n bs filled c.args.slots.now refl some are v apart (λ k h. c.placing.invariant k (omega (arith, length_offsets level))))
          (c.trying.invariant.1 filled are);
    }
