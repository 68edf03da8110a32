use Rattle.std.proofs.Common.{◌≡◌, ◌+◌, ◌≤◌, length}
use Rattle.hashing.specs.Triples.{sum}
use Rattle.hashing.proofs.triples.Sums.over.Given as goal

abbrev pub invariant-loop-byte : goal.invariant-loop-byte
invariant-loop-byte g l =
    record {
      can : (goal.iterator-loop-byte g).can_next l.byte-iterator;
      ends : (goal.iterator-loop-byte g).is_finite l.byte-iterator;
      few : length l.yielded + (goal.iterator-loop-byte g).remaining l.byte-iterator ≤ 16;
      places : l.sums.places ≡ length l.yielded;
      s0 : l.sums.s0 ≡ sum l.tables.numbers.now 0 l.yielded;
      s1 : l.sums.s1 ≡ sum l.tables.numbers.now 1 l.yielded;
      s2 : l.sums.s2 ≡ sum l.tables.numbers.now 2 l.yielded;
    }
