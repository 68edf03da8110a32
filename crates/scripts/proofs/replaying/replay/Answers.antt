use Rattle.std.proofs.Common.{◌≡◌, ◌<◌, ◌≤◌, length, refl, ◌∙◌, arith}
use Rattle.std.proofs.lemmas.List.{drop-set-lt}
use Rattle.pressing.specs.Memory.{memory, lent}
use Rattle.scripts.proofs.Stepping.{none_yet, one_more, replayed}
use Rattle.scripts.proofs.replaying.replay.Goals as goal

pub returns-then-answers-script : goal.returns-then-answers-script
returns-then-answers-script g c = record { few = c.if-answers-script.true; pressing_same = refl; lists_same = refl; string_same = refl; answers_same = refl }

pub loop-i-init : goal.loop-i-init
loop-i-init g c = (λ m h. none_yet _ _ _ _ _ _ m _ _ _ _ h, refl)

pub bounds-answers-i : goal.bounds-answers-i
bounds-answers-i g c = omega (arith, c.loop-i-test.true, c.if-answers-script.false, c.loop-i.auto.answers)

pub loop-i-preserved : goal.loop-i-preserved
loop-i-preserved g c =
    let k = c.loop-i.auto in
    let place : c.loop-i.i < length c.loop-i.answers = omega (arith, c.loop-i-test.true, c.if-answers-script.false, c.loop-i.auto.answers) in
    let same : lent (memory c.loop-i.rows c.loop-i.tables c.loop-i.edges c.loop-i.vertices c.loop-i.heap c.loop-i.ordered c.loop-i.slots) ≡ lent (memory c.args.lists.rows.now c.args.lists.tables.now c.args.lists.edges.now c.args.lists.vertices.now c.args.lists.heap.now c.args.lists.ordered.now c.args.lists.slots.now) =
    λ j. record { rows = k.rows j; tables = k.tables j; edges = k.edges j; vertices = k.vertices j; heap = k.heap j; ordered = k.ordered j; slots = k.slots j } in (
      λ m h. one_more _ _ _ _ _ _ m c.loop-i.i c.index-script-i.result c.loop-i.answers c.loop-i-test.true place c.index-script-i.is same k.string c.take_step.ensures (c.loop-i.invariant.0 m h),
      drop-set-lt (length c.args.script.now) c.loop-i.answers c.loop-i.i c.take_step.result c.loop-i-test.true ∙ c.loop-i.invariant.1,
    )

pub returns : goal.returns
returns g c =
    let enough : length c.args.script.now ≤ length c.args.answers.now = c.if-answers-script.false in
    let all : length c.args.script.now ≡ c.loop-i.i = omega (arith, c.loop-i-test.false, c.loop-i.auto.i-end) in
    replayed g.N.Kind.spelling g.N.Kind.number g.W.Way.meaning g.met.W.Way.laws c.args.script.now _ _ _ _ _ _ _ _ c.loop-i.i enough all c.loop-i.invariant.1 c.loop-i.invariant.0
