use Rattle.std.proofs.Common.{◌≡◌, ◌*◌, take, drop}
use Rattle.graph.specs.Chains.{Graph}
use Rattle.graph.specs.Mapping.{row_triples}
use Rattle.graph.proofs.build.map_names.Given as goal

abbrev pub invariant-loop-i : goal.invariant-loop-i
invariant-loop-i g l =
    Graph (row_triples g.N.Kind.spelling l.tables l.sizes.n l.sizes.r (take l.i l.rows)) l.sizes.r l.edges l.vertices
    × (drop l.count l.edges ≡ drop l.count l.initial.edges)
    × (drop (2 * l.sizes.r) l.vertices ≡ drop (2 * l.sizes.r) l.initial.vertices)
