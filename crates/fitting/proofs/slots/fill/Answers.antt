use Rattle.std.proofs.Common.{◌≡◌, [], ◌++◌, length, sym, ap, ◌∙◌, subst, arith}
use Rattle.runs.specs.Fitting.{turned}
use Rattle.std.proofs.lemmas.List.{nil_from_length}
use Rattle.fitting.specs.Placing.{FilledAre, offsets, placed}
use Rattle.fitting.proofs.Placed.{placed_nowhere, placed_on, placed_end, placed_fills}
use Rattle.fitting.proofs.slots.fill.Goals as goal

pub returns-then-n-eq0 : goal.returns-then-n-eq0
returns-then-n-eq0 c =
    let e : c.args.slots.now ≡ [] = nil_from_length c.args.slots.now (omega arith) in
    record {
      rows = e ∙ sym (ap (placed c.args.rotation c.args.level.now) e ∙ placed_nowhere c.args.rotation c.args.level.now);
      fills = λ filled are s h. absurd (omega arith);
    }

pub loop-name-preserved : goal.loop-name-preserved
loop-name-preserved c = rw (c.from.ensures, c.from-in-loop-name.ensures) (placed_on c.args.rotation _ c.args.level.now c.loop-name.name-index c.loop-name.slots _ (omega arith) (omega arith) c.loop-name.invariant)

pub returns : goal.returns
returns c =
    let v = c.args.rotation in
    let level = c.args.level.now in
    let slots = c.args.slots.now in
    let is : c.loop-name.slots ≡ placed v level slots = placed_end v level c.loop-name.name-index c.loop-name.slots _ (omega arith) c.loop-name.invariant in
    record {
      rows = is;
      fills = λ filled are. subst (λ after. FilledAre (filled ++ turned (length slots) v (offsets level)) after) (sym is) (placed_fills v level slots filled (omega arith) are);
    }
