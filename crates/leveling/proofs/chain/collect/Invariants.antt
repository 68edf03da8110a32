use Rattle.std.proofs.Common.{◌≡◌, ℕ, ◌+◌, ◌*◌, ◌<◌, ◌≤◌, List, length, take}
use Rattle.std.specs.List.{filter_map}
use Rattle.hashing.specs.Triples.{Triple}
use Rattle.runs.specs.Order.{order}
use Rattle.graph.specs.Chains.{row, Graph}
use Rattle.graph.specs.Walks.{walk}
use Rattle.ordering.specs.Queue.{Placed}
use Rattle.leveling.specs.Level.{Valued}
use Rattle.leveling.proofs.Walking.{name_of}
use Rattle.leveling.proofs.chain.collect.Given as goal

abbrev pub invariant-loop-row : goal.invariant-loop-row
invariant-loop-row l =
    (l.k + length (walk l.row-iterator.low l.row-iterator.edges.now l.row-iterator.at) ≤ l.n)
    × ((es : List Triple) (values : List ℕ) → length es ≡ length l.edges → Graph es l.r l.edges l.vertices → ((u : ℕ) → u < 2 * l.r → Placed (order es l.r) u (row l.vertices u).place) → Valued (2 * l.r) values l.vertices →
    take l.k l.names ≡ filter_map (name_of es (length l.edges) values (take l.level (order es l.r)) l.v) l.yielded)
