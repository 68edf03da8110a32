use Rattle.std.proofs.Common.{◌≡◌, ◌-◌, ◌*◌, ◌<◌, ltb, take, sym, ap, ◌∙◌, subst, arith}
use Rattle.std.specs.Bool.{then_some}
use Rattle.std.proofs.lemmas.Bool.{lt-ltb}
use Rattle.ordering.specs.Queue.{Chosen}
use Rattle.ordering.proofs.Choosing.{popped, popped_low, started}
use Rattle.ordering.proofs.Starts.{greatest_whole}
use Rattle.ordering.proofs.queue.choose.Goals as goal

pub returns-clause-chosen : goal.returns-clause-chosen
returns-clause-chosen c =
    let r = c.args.r in
    let vertices = c.args.vertices.now in
    let before = take c.args.heap.now.len c.args.heap.now.items.now in
    let after = take c.pop.new.self.len c.pop.new.self.items.now in
    let h = c.in-Some.ensures in
    let y = c.in-Some.w in
    λ es vs wd q.
    let low : y.vertex < 2 * r = popped_low es r vs vertices before wd q y after h.first h.popped.content in
    let is = c.then_some.ensures ∙ ap (λ b. then_some b y.vertex) (ap (λ k. ltb k (2 * r)) c.from.ensures ∙ lt-ltb y.vertex (2 * r) low) in
    subst (Chosen es r vs before after) (sym is) (popped es r vs vertices before wd q y after h.first h.popped.content)

pub returns-in_default-clause-chosen : goal.returns-in_default-clause-chosen
returns-in_default-clause-chosen c =
    let r = c.args.r in
    let items = c.args.heap.now.items.now in
    let after = c.pop.new.self.items.now in
    let p = c.in_default.ensures.popped in
    let z : 2 * r - 0 ≡ 2 * r = omega arith in
    λ es vs wd q.
    started es r vs c.args.vertices.now (take c.args.heap.now.len items) wd q (take c.pop.new.self.len after)
    (ap (λ n. take n items) p.none) (ap (λ n. take n after) (p.count ∙ p.none)) c.start.result
    (greatest_whole (2 * r) (2 * r - 0) c.args.vertices.now z c.requires.0.0 c.start.result c.start.ensures)
