use Rattle.std.proofs.Common.{◌≡◌, set, sym, ap, ◌∙◌, arith}
use Rattle.hashing.specs.Generator.{next, after}
use Rattle.hashing.proofs.Drawing.{filling, after_more}
use Rattle.hashing.proofs.tables.draw.Goals as goal

pub loop-number-preserved : goal.loop-number-preserved
loop-number-preserved c =
    let l = c.loop-number in
    let i = l.number-index in
    let x = c.args.seed.value in
    let e : c.next-state.result.value ≡ next (after i x) = c.next-state.ensures ∙ ap next l.invariant.state in
    record {
      items = ap (set l.number-items i) (c.value.ensures ∙ e) ∙ filling l.number-items c.args.memory.now i x (omega arith) l.invariant.items;
      state = e ∙ sym (after_more i x);
    }
