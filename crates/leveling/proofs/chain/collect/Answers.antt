use Rattle.std.proofs.Common.{◌≡◌, ℕ, ◌+◌, ◌*◌, ◌<◌, ◌≤◌, ltb, length, get_or, take, refl, sym, ap, ◌∙◌, subst, arith}
use Rattle.std.proofs.lemmas.List.{map-id}
use Rattle.std.proofs.lemmas.Iterator.Consumers.{YieldsList-from_first, YieldsList-turn, YieldsList-end}
use Rattle.runs.specs.Order.{order}
use Rattle.graph.specs.declared.chain.Chain.{Chain}
use Rattle.graph.specs.declared.rows.Edge.{Edge}
use Rattle.graph.specs.Chains.{at_vertex, row}
use Rattle.graph.specs.Walks.{walk, rows_where}
use Rattle.graph.proofs.Walked.{walk_few, walk_rows_low}
use Rattle.leveling.proofs.Walking.{names_end, names_take, names_pass, part_tells, offset_tells}
use Rattle.leveling.proofs.chain.collect.Goals as goal

pub loop-row-init : goal.loop-row-init
loop-row-init c =
    let s = c.into_iter-row-iterator.result in
    let is : s.edges.now ≡ c.args.edges.now = ap (λ (s : Chain). s.edges.now) c.into_iter-row-iterator.ensures.into_iter_gives ∙ c.new-row-items.ensures.starts.0 in
    (omega (arith, walk_few s.low s.edges.now (length s.edges.now) s.at, ap length is), λ es values en g placed have. refl)

pub overflow_cast-names : goal.overflow_cast-names
overflow_cast-names c =
    let l = c.loop-row in
    let r = c.args.r in
    let v = c.args.v in
    let edges = c.args.edges.now in
    let vertices = c.args.vertices.now in
    let n = c.new-row-items.ensures in
    let road = YieldsList-from_first (λ x. x) (λ (s : Chain). walk s.low s.edges.now s.at) {s = c.into_iter-row-iterator.result} (walk (ltb v r) edges (row vertices v).first)
    (ap (λ (s : Chain). walk s.low s.edges.now s.at) c.into_iter-row-iterator.ensures.into_iter_gives ∙ (λ k. walk (n.starts.2 k) (n.starts.0 k) (n.starts.1 k))) in
    let x : ℕ × Edge = (c.in-Some.row, c.in-Some.e) in
    let turn = YieldsList-turn road l.yielded l.row-iterator l.yielded_by c.next.result c.next.new.self x c.in-Some.is c.next.ensures.steps in
    let low : c.in-Some.row < length edges = subst (λ (p : ℕ × Edge). p.0 < length edges) (sym turn.1) (walk_rows_low (ltb v r) edges (length edges) (row vertices v).first (length l.yielded) x turn.0) in
    omega (arith, low, c.requires.1)

pub loop-row-preserved-in-Some-offset_by : goal.loop-row-preserved-in-Some-offset_by
loop-row-preserved-in-Some-offset_by c =
    let l = c.loop-row in
    let r = c.args.r in
    let v = c.args.v in
    let edges = c.args.edges.now in
    let vertices = c.args.vertices.now in
    let n = c.new-row-items.ensures in
    let road = YieldsList-from_first (λ x. x) (λ (s : Chain). walk s.low s.edges.now s.at) {s = c.into_iter-row-iterator.result} (walk (ltb v r) edges (row vertices v).first)
    (ap (λ (s : Chain). walk s.low s.edges.now s.at) c.into_iter-row-iterator.ensures.into_iter_gives ∙ (λ k. walk (n.starts.2 k) (n.starts.0 k) (n.starts.1 k))) in
    let x : ℕ × Edge = (c.in-Some.row, c.in-Some.e) in
    let turn = YieldsList-turn road l.yielded l.row-iterator l.yielded_by c.next.result c.next.new.self x c.in-Some.is c.next.ensures.steps in
    let less : l.k + 1 + length (walk c.next.new.self.low c.next.new.self.edges.now c.next.new.self.at) ≤ length edges = omega (arith, l.invariant.0, ap length c.in-Some.ensures.steps) in (
      less,
      λ es values en g placed have.
          let is = n.exact es r v vertices g en c.requires.3 refl refl in
          let told = offset_tells es r edges vertices g v values (length edges) c.args.level placed have (length l.yielded) x (subst (λ xs. length l.yielded < length xs) is turn.0) (turn.1 ∙ ap (λ xs. get_or xs (length l.yielded) x) is) c.from.result c.offset_by.result (c.from.ensures ∙ c.far.ensures) (c.offset_by.ensures ∙ part_tells es r edges vertices g v values (length edges) c.args.level placed have (2 * r) c.requires.2.0 c.in-Some.e.h0 c.from.result) in
          names_take es (length edges) values (take c.args.level (order es r)) v l.k l.names l.yielded (l.invariant.1 es values en g placed have) x c.offset_by.result told c.in-Some-offset_by.offset c.in-Some-offset_by.is (omega (arith, less)),
    )

pub loop-row-preserved : goal.loop-row-preserved
loop-row-preserved c =
    let l = c.loop-row in
    let r = c.args.r in
    let v = c.args.v in
    let edges = c.args.edges.now in
    let vertices = c.args.vertices.now in
    let n = c.new-row-items.ensures in
    let road = YieldsList-from_first (λ x. x) (λ (s : Chain). walk s.low s.edges.now s.at) {s = c.into_iter-row-iterator.result} (walk (ltb v r) edges (row vertices v).first)
    (ap (λ (s : Chain). walk s.low s.edges.now s.at) c.into_iter-row-iterator.ensures.into_iter_gives ∙ (λ k. walk (n.starts.2 k) (n.starts.0 k) (n.starts.1 k))) in
    let x : ℕ × Edge = (c.in-Some.row, c.in-Some.e) in
    let turn = YieldsList-turn road l.yielded l.row-iterator l.yielded_by c.next.result c.next.new.self x c.in-Some.is c.next.ensures.steps in (
      omega (arith, l.invariant.0, ap length c.in-Some.ensures.steps),
      λ es values en g placed have.
          let is = n.exact es r v vertices g en c.requires.3 refl refl in
          let told = offset_tells es r edges vertices g v values (length edges) c.args.level placed have (length l.yielded) x (subst (λ xs. length l.yielded < length xs) is turn.0) (turn.1 ∙ ap (λ xs. get_or xs (length l.yielded) x) is) c.from.result c.offset_by.result (c.from.ensures ∙ c.far.ensures) (c.offset_by.ensures ∙ part_tells es r edges vertices g v values (length edges) c.args.level placed have (2 * r) c.requires.2.0 c.in-Some.e.h0 c.from.result) in
          names_pass es (length edges) values (take c.args.level (order es r)) v l.k l.names l.yielded (l.invariant.1 es values en g placed have) x c.offset_by.result told c.in_default.is,
    )

pub returns-clause-told : goal.returns-clause-told
returns-clause-told c =
    let l = c.loop-row in
    let r = c.args.r in
    let v = c.args.v in
    let edges = c.args.edges.now in
    let vertices = c.args.vertices.now in
    let n = c.new-row-items.ensures in
    let road = YieldsList-from_first (λ x. x) (λ (s : Chain). walk s.low s.edges.now s.at) {s = c.into_iter-row-iterator.result} (walk (ltb v r) edges (row vertices v).first)
    (ap (λ (s : Chain). walk s.low s.edges.now s.at) c.into_iter-row-iterator.ensures.into_iter_gives ∙ (λ k. walk (n.starts.2 k) (n.starts.0 k) (n.starts.1 k))) in
    let end = YieldsList-end road l.yielded l.row-iterator l.yielded_by c.next.result c.next.new.self c.in-None.is c.next.ensures.steps in
    λ es values en g placed have.
    let is = n.exact es r v vertices g en c.requires.3 refl refl in
    names_end es (length edges) values (take c.args.level (order es r)) v l.k l.names l.yielded (l.invariant.1 es values en g placed have) edges
    (sym (map-id l.yielded) ∙ end.0 ∙ is ∙ ap (rows_where (at_vertex es v) edges) en)
