use Rattle.std.proofs.Common.{◌≡◌}
use Rattle.hashing.specs.Generator.{after}
use Rattle.figures.proofs.drawn.Given as goal

abbrev pub invariant-loop : goal.invariant-loop
invariant-loop l = l.state.value ≡ after l.counter l.initial.state.value
