-- A walk along the chain of a vertex.
use Rattle.std.specs.Prelude.{ℕ, zero, suc, Bool, cond, List, [], ◌∷◌, length, ◌==◌}
use Rattle.graph.specs.declared.rows.Edge.{Edge}
use Rattle.graph.specs.Chains.{link}

-- the link of an edge in the chain of the vertex on this side
abbrev pub onward : Bool → Edge → ℕ
onward low e = cond low e.next1 e.next2

-- what comes from the link `at` on, of the first k edges: each leads to one below it
abbrev pub walk_below : Bool → List Edge → ℕ → ℕ → List (ℕ × Edge)
walk_below low edges zero at = []
walk_below low edges (suc k) at = cond (at == suc k) ((k, link edges k) ∷ walk_below low edges k (onward low (link edges k))) (walk_below low edges k at)

abbrev pub walk : Bool → List Edge → ℕ → List (ℕ × Edge)
walk low edges at = walk_below low edges (length edges) at

-- those of the first k edges whose rows pass, with the rows, the latest first
abbrev pub rows_where : (ℕ → Bool) → List Edge → ℕ → List (ℕ × Edge)
rows_where p edges zero = []
rows_where p edges (suc k) = cond (p k) ((k, link edges k) ∷ rows_where p edges k) (rows_where p edges k)
