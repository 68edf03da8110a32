use Rattle.std.proofs.Common.{◌<◌, length, take, set, sym, refl, ap, ◌∙◌, arith}
use Rattle.std.proofs.lemmas.List.{length-take-le}
use Rattle.graph.specs.declared.rows.Place.TheVariants.{Waits}
use Rattle.graph.specs.Chains.{row}
use Rattle.ordering.specs.Queue.{degree_at, unseen_at, at_place}
use Rattle.ordering.proofs.Queues.{pushed_room, met_first, has_room}
use Rattle.ordering.proofs.queue.meet.Goals as goal

pub returns-then-unseen-clause-queued : goal.returns-then-unseen-clause-queued
returns-then-unseen-clause-queued c =
    let vertices = c.args.vertices.now in
    let u = c.args.u in
    let m = c.args.m in
    let items = c.args.heap.now.items.now in
    let len = c.args.heap.now.len in
    λ weight vs seen a b d q.
    let e = c.from-v.ensures in
    let f = ap (unseen_at vertices) (sym e) ∙ sym c.if-unseen.ensures in
    let room : len < length items = omega (arith, has_room m weight vs vertices (take len items) seen q u a f, length-take-le len items c.args.heap.now.holds.0) in
    met_first m weight vs vertices (take len items) seen q u a f c.requires record { degree = degree_at vertices c.from-v.result; vertex = u } refl (ap (degree_at vertices) e ∙ d u a) _ (pushed_room _ _ _ _ _ _ room c.push.ensures.pushed) _ (ap (λ k. set vertices k (at_place Waits (row vertices k))) e)
