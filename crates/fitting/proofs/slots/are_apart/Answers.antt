use Rattle.std.proofs.Common.{◌≡◌, ℕ, ◌+◌, ◌%◌, ◌<◌, true, false, length, get_or, set, sym, refl, ap, ◌∙◌, subst, mod-lt, arith}
use Rattle.std.proofs.lemmas.List.{length-set}
use Rattle.ways.proofs.Marks.{Marked, marked_none, marked_more}
use Rattle.fitting.specs.Placing.{offsets}
use Rattle.fitting.proofs.Placed.{offset_at, length_offsets}
use Rattle.fitting.proofs.slots.are_apart.Goals as goal

pub loop-name-init : goal.loop-name-init
loop-name-init c = (refl, marked_none (λ j. get_or (offsets c.args.level.now) j 0 % c.args.n) 1024)

pub loop-name-preserved : goal.loop-name-preserved
loop-name-preserved c =
    let n = c.args.n in
    let bs = offsets c.args.level.now in
    let f : ℕ → ℕ = λ j. get_or bs j 0 % n in
    let i = c.loop-name.name-index in
    let marks = c.loop-name.marks in
    let is : f i ≡ c.from.result % n = ap (λ b. b % n) (offset_at c.args.level.now i ∙ sym c.from.ensures) in
    let low : f i < length marks = omega (arith, mod-lt (get_or bs i 0) c.requires.0, c.requires.1, c.loop-name.invariant.0) in
    let fresh : get_or marks (f i) false ≡ false = ap (λ s. get_or marks s false) is ∙ c.if-marks-slot.false in (
      length-set marks _ true ∙ c.loop-name.invariant.0,
      subst (λ s. Marked f (i + 1) (set marks s true)) is (marked_more f i marks c.loop-name.invariant.1 low fresh),
    )

pub returns-then-marks-slot : goal.returns-then-marks-slot
returns-then-marks-slot c =
    let n = c.args.n in
    let level = c.args.level.now in
    let i = c.loop-name.name-index in
    let is : get_or (offsets level) i 0 % n ≡ c.from.result % n = ap (λ b. b % n) (offset_at level i ∙ sym c.from.ensures) in
    let met = c.loop-name.invariant.1.only (c.from.result % n) c.if-marks-slot.true in
    record {
      yes = λ e. absurd cc;
      other = λ _ apart. apart met.0 i (met.1, omega (arith, length_offsets level), met.2 ∙ sym is);
    }

pub returns : goal.returns
returns c =
    let level = c.args.level.now in
    record {
      yes = λ _ j k h. let b = h.1 in c.loop-name.invariant.1.apart j k (h.0, omega (arith, length_offsets level), h.2);
      other = λ e. absurd cc;
    }
