use Rattle.std.proofs.Common.{◌≡◌, ◌+◌, ◌*◌, ◌<◌, ◌≤◌, [], length, take, drop, set, sym, refl, ap, ◌∙◌, subst, arith}
use Rattle.std.proofs.lemmas.List.{drop-set-lt, drop-drop}
use Rattle.graph.specs.declared.rows.Place.TheVariants.{At}
use Rattle.graph.specs.Chains.{row}
use Rattle.ordering.specs.Queue.{OrderedGraph, at_place}
use Rattle.ordering.proofs.Queues.{replaced_none, replaced_both}
use Rattle.ordering.proofs.Starts.{bounded_on}
use Rattle.ordering.proofs.Gathering.{graph_kept, graph_weighs}
use Rattle.ordering.proofs.Arranging.{Arranged, begun_reset, none_placed, begun_on, arranged_none, put_queued, put_replaced, arranged_more, all_taken, in_order}
use Rattle.ordering.proofs.order.arrange.Goals as goal

pub loop-k-init : goal.loop-k-init
loop-k-init c =
    let e = c.new-heap.ensures.lent in (
      ap length e.1 ∙ c.requires.1,
      replaced_none _ _,
      refl,
      tt,
      λ es en g. subst (λ hs. Arranged es c.args.r [] c.reset.new.vertices hs) (sym (ap (λ n. take n c.new-heap.result.items.now) e.2))
          (arranged_none es c.args.r c.reset.new.vertices (none_placed (2 * c.args.r) c.args.vertices.now c.reset.new.vertices c.reset.ensures.done c.reset.ensures.rest)),
    )

pub loop-k-preserved : goal.loop-k-preserved
loop-k-preserved c =
    let l = c.loop-k in
    let r = c.args.r in
    let v = c.in-Some.v in
    let ch = c.in-Some.ensures in
    let a = c.gather.ensures in
    let edges = c.args.edges.now in
    let lk : l.k < length l.ordered = omega arith in
    let lv : 2 * r ≤ length l.vertices = omega arith in
    let after = set l.vertices v (at_place (At l.k) (row l.vertices v)) in
    let put = put_replaced (2 * r) l.k v l.vertices after ch.low lv refl in (
      a.lent.1 ∙ ch.lent.1 ∙ l.invariant.0,
      replaced_both _ _ _ _ l.invariant.1 (replaced_both _ _ _ _ put a.replaced),
      drop-set-lt (l.k + 1) l.ordered l.k v (omega arith) ∙ sym (drop-drop 1 l.k l.ordered) ∙ ap (drop 1) l.invariant.2 ∙ drop-drop 1 l.k c.args.ordered.now,
      bounded_on (2 * r) l.vertices c.gather.new.vertices (replaced_both _ _ _ _ put a.replaced) c.choose.new.last ch.bounded,
      λ es en g.
          let w = l.invariant.4 es en g in
          let h = graph_kept es r edges c.reset.new.vertices l.vertices l.invariant.1.first l.invariant.1.degree g in
          let h1 = graph_kept es r edges l.vertices after put.first put.degree h in
          let next = ch.chosen es (take l.k l.ordered) (graph_weighs es r edges l.vertices h) w.queued in
          arranged_more es r edges l.ordered l.k v l.vertices after _ _ lk lv ch.low w next refl _ _
          (a.queued es (take l.k l.ordered) en h1 (omega (arith, ch.lent.1))
          (put_queued es r edges l.ordered l.k v l.vertices after _ _ lk lv ch.low w next refl)),
    )

pub returns-clause-exact : goal.returns-clause-exact
returns-clause-exact c =
    let l = c.loop-k in
    let r = c.args.r in
    let edges = c.args.edges.now in
    let b0 = begun_reset (2 * r) c.args.vertices.now c.reset.new.vertices c.reset.ensures.done c.reset.ensures.rest in
    let b = begun_on _ _ _ _ b0 l.invariant.1 in
    let lk : l.k ≤ length l.ordered = omega arith in
    let full : l.k ≡ 2 * r = omega arith in
    λ es en g.
    let g0 = graph_kept es r edges c.args.vertices.now c.reset.new.vertices b0.first b0.degree g in
    let h = graph_kept es r edges c.args.vertices.now l.vertices b.first b.degree g in
    let w = l.invariant.4 es en g0 in
    subst (OrderedGraph es r edges l.vertices l.ordered) full (in_order es r edges l.ordered l.k l.vertices _ h lk w (all_taken es r edges l.ordered l.k l.vertices _ h lk w (omega arith) (omega arith)))

pub returns-clause-begun : goal.returns-clause-begun
returns-clause-begun c = begun_on _ _ _ _ (begun_reset (2 * c.args.r) c.args.vertices.now c.reset.new.vertices c.reset.ensures.done c.reset.ensures.rest) c.loop-k.invariant.1

pub returns-in_default-clause-exact : goal.returns-in_default-clause-exact
returns-in_default-clause-exact c =
    let l = c.loop-k in
    let r = c.args.r in
    let edges = c.args.edges.now in
    let b0 = begun_reset (2 * r) c.args.vertices.now c.reset.new.vertices c.reset.ensures.done c.reset.ensures.rest in
    let b = begun_on _ _ _ _ b0 l.invariant.1 in
    let lk : l.k ≤ length l.ordered = omega arith in
    λ es en g.
    let g0 = graph_kept es r edges c.args.vertices.now c.reset.new.vertices b0.first b0.degree g in
    let h = graph_kept es r edges c.args.vertices.now l.vertices b.first b.degree g in
    let w = l.invariant.4 es en g0 in
    in_order es r edges l.ordered l.k l.vertices _ h lk w (c.in_default.ensures.chosen es (take l.k l.ordered) (graph_weighs es r edges l.vertices h) w.queued)

pub returns-in_default-clause-begun : goal.returns-in_default-clause-begun
returns-in_default-clause-begun c = begun_on _ _ _ _ (begun_reset (2 * c.args.r) c.args.vertices.now c.reset.new.vertices c.reset.ensures.done c.reset.ensures.rest) c.loop-k.invariant.1
