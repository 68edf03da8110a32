use Rattle.std.proofs.Common.{◌≡◌, ◌++◌, drop}
use Rattle.hashing.specs.Generator.{drawn, after}
use Rattle.hashing.proofs.tables.draw.Given as goal

abbrev pub invariant-loop-number : goal.invariant-loop-number
invariant-loop-number l =
    record {
      items : l.number-items ≡ drawn l.number-index l.fn.seed.value ++ drop l.number-index l.initial.number-items;
      state : l.state.value ≡ after l.number-index l.fn.seed.value;
    }
