use Rattle.std.proofs.Common.{◌≡◌, ℕ, ◌*◌, ◌≤◌, ltb, List, [], ◌∷◌, ◌++◌, length, take}
use Rattle.hashing.specs.Triples.{Triple}
use Rattle.runs.specs.Order.{degree, joined}
use Rattle.graph.specs.Chains.{Graph}
use Rattle.ordering.specs.Queue.{Queued, Replaced}
use Rattle.ordering.proofs.Gathering.{seen_by}
use Rattle.ordering.proofs.queue.gather.Given as goal

abbrev pub invariant-loop-e : goal.invariant-loop-e
invariant-loop-e l =
    (l.heap.items.ghost_name ≡ l.initial.heap.items.ghost_name)
    × (length l.heap.items.now ≡ length l.initial.heap.items.now)
    × Replaced (2 * l.r) l.initial.vertices l.vertices
    × ((es : List Triple) (vs : List ℕ) → length es ≡ length l.edges → Graph es l.r l.edges l.initial.vertices → 2 * l.r ≤ length l.initial.heap.items.now →
    Queued (2 * l.r) (degree es) (vs ++ l.v ∷ []) (joined es vs) l.initial.vertices (take l.initial.heap.len l.initial.heap.items.now) →
    Queued (2 * l.r) (degree es) (vs ++ l.v ∷ []) (seen_by es vs (ltb l.v l.r) l.yielded) l.vertices (take l.heap.len l.heap.items.now))
