use Rattle.std.proofs.Common.{◌≡◌, sym, ap, ◌∙◌, arith}
use Rattle.hashing.specs.Generator.{next, after}
use Rattle.hashing.proofs.Drawing.{after_more}
use Rattle.figures.proofs.drawn.Goals as goal

pub loop-preserved : goal.loop-preserved
loop-preserved c = c.next-state.ensures ∙ ap next c.loop.invariant ∙ sym (after_more c.loop.counter c.args.seed.value)

pub returns : goal.returns
returns c =
    let e : c.loop.counter ≡ c.args.steps = omega arith in
    c.loop.invariant ∙ ap (λ k. after k c.args.seed.value) e
