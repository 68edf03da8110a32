use Rattle.std.proofs.Common.{◌≡◌, ◌*◌, List, length, take, drop}
use Rattle.hashing.specs.Triples.{Triple}
use Rattle.graph.specs.Chains.{Graph}
use Rattle.ordering.specs.Queue.{Replaced, Bounded}
use Rattle.ordering.proofs.Arranging.{Arranged}
use Rattle.ordering.proofs.order.arrange.Given as goal

abbrev pub invariant-loop-k : goal.invariant-loop-k
invariant-loop-k l =
    (length l.heap.items.now ≡ 2 * l.r)
    × Replaced (2 * l.r) l.initial.vertices l.vertices
    × (drop l.k l.ordered ≡ drop l.k l.initial.ordered)
    × Bounded (2 * l.r) l.vertices l.last
    × ((es : List Triple) → length es ≡ length l.edges → Graph es l.r l.edges l.initial.vertices → Arranged es l.r (take l.k l.ordered) l.vertices (take l.heap.len l.heap.items.now))
