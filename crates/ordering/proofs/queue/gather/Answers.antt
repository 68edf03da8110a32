use Rattle.std.proofs.Common.{ℕ, ◌*◌, ◌<◌, ltb, [], ◌∷◌, ◌++◌, length, get_or, refl, sym, ap, ◌∙◌, subst, arith}
use Rattle.std.proofs.lemmas.List.{map-id}
use Rattle.std.proofs.lemmas.Iterator.Consumers.{YieldsList-from_first, YieldsList-turn, YieldsList-end}
use Rattle.runs.specs.Order.{degree}
use Rattle.graph.specs.declared.chain.Chain.{Chain}
use Rattle.graph.specs.declared.rows.Edge.{Edge}
use Rattle.graph.specs.Chains.{row}
use Rattle.graph.specs.Walks.{walk}
use Rattle.ordering.proofs.Queues.{replaced_both}
use Rattle.ordering.proofs.Gathering.{seen_by, gather_goes, gather_ends, met_below, graph_kept, graph_weighs}
use Rattle.ordering.proofs.queue.gather.Goals as goal

pub loop-e-preserved : goal.loop-e-preserved
loop-e-preserved c =
    let l = c.loop-e in
    let a = c.meet.ensures in
    let r = c.args.r in
    let v = c.args.v in
    let edges = c.args.edges.now in
    let vertices = c.args.vertices.now in
    let n = c.new-e-items.ensures in
    let x : ℕ × Edge = (c.in-Some.field-0-0, c.in-Some.e) in
    let road = YieldsList-from_first (λ x. x) (λ (s : Chain). walk s.low s.edges.now s.at) {s = c.into_iter-e-iterator.result} (walk (ltb v r) edges (row vertices v).first)
    (ap (λ (s : Chain). walk s.low s.edges.now s.at) c.into_iter-e-iterator.ensures.into_iter_gives ∙ (λ k. walk (n.starts.2 k) (n.starts.0 k) (n.starts.1 k))) in
    let turn = YieldsList-turn road l.yielded l.e-iterator l.yielded_by c.next.result c.next.new.self x c.in-Some.is c.next.ensures.steps in (
      a.lent.0 ∙ l.invariant.0,
      a.lent.1 ∙ l.invariant.1,
      replaced_both _ _ _ _ l.invariant.2 a.replaced,
      λ es vs en g room q.
          let h = graph_kept es r edges vertices l.vertices l.invariant.2.first l.invariant.2.degree g in
          let is = n.exact es r v vertices g en c.requires.1 refl refl in
          let below : c.far.result < 2 * r = omega (arith, c.far.ensures, met_below es r edges vertices g v (length l.yielded) x (subst (λ xs. length l.yielded < length xs) is turn.0) (turn.1 ∙ ap (λ xs. get_or xs (length l.yielded) x) is)) in
          gather_goes es r edges vertices g v vs _ _ l.yielded x c.far.result c.far.ensures
          (a.queued (degree es) (vs ++ v ∷ []) (seen_by es vs (ltb v r) l.yielded) below (omega arith) (graph_weighs es r edges l.vertices h) (l.invariant.3 es vs en g room q)),
    )

pub returns-clause-queued : goal.returns-clause-queued
returns-clause-queued c =
    let l = c.loop-e in
    let r = c.args.r in
    let v = c.args.v in
    let edges = c.args.edges.now in
    let vertices = c.args.vertices.now in
    let n = c.new-e-items.ensures in
    let road = YieldsList-from_first (λ x. x) (λ (s : Chain). walk s.low s.edges.now s.at) {s = c.into_iter-e-iterator.result} (walk (ltb v r) edges (row vertices v).first)
    (ap (λ (s : Chain). walk s.low s.edges.now s.at) c.into_iter-e-iterator.ensures.into_iter_gives ∙ (λ k. walk (n.starts.2 k) (n.starts.0 k) (n.starts.1 k))) in
    let end = YieldsList-end road l.yielded l.e-iterator l.yielded_by c.next.result c.next.new.self c.in-None.is c.next.ensures.steps in
    λ es vs en g room q.
    gather_ends es r edges vertices g v vs _ _ l.yielded (sym (map-id l.yielded) ∙ end.0 ∙ n.exact es r v vertices g en c.requires.1 refl refl) (l.invariant.3 es vs en g room q)
