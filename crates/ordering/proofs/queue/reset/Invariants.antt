use Rattle.std.proofs.Common.{◌≡◌, ℕ, ◌<◌, ◌≤◌}
use Rattle.graph.specs.Chains.{row}
use Rattle.ordering.specs.Queue.{fresh}
use Rattle.ordering.proofs.queue.reset.Given as goal

abbrev pub invariant-loop-x : goal.invariant-loop-x
invariant-loop-x l = ((v : ℕ) → v < l.x-index → row l.x-items v ≡ fresh (row l.initial.x-items v)) × ((v : ℕ) → l.x-index ≤ v → row l.x-items v ≡ row l.initial.x-items v)
