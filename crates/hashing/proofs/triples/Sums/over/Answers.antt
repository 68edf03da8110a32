use Rattle.std.proofs.Common.{arith}
use Rattle.std.proofs.lemmas.List.{length_push}
use Rattle.hashing.proofs.Summing.{sum_pushed}
use Rattle.hashing.proofs.triples.Sums.over.Goals as goal

pub loop-byte-preserved : goal.loop-byte-preserved
loop-byte-preserved g c =
    let l = c.loop-byte in
    let t = c.args.tables.numbers.now in
    let b = c.in-Some.byte in
    let on = c.in-Some.ensures.goes.on l.invariant.ends in
    let long = length_push l.yielded b in
    let w = c.with-sums.ensures in
    record {
      can = on.0;
      ends = on.1;
      few = omega (arith, on.2, l.invariant.few);
      places = omega (arith, w.places, l.invariant.places);
      s0 = sum_pushed t 0 l.yielded b l.sums.places l.sums.s0 l.invariant.places l.invariant.s0 w.s0;
      s1 = sum_pushed t 1 l.yielded b l.sums.places l.sums.s1 l.invariant.places l.invariant.s1 w.s1;
      s2 = sum_pushed t 2 l.yielded b l.sums.places l.sums.s2 l.invariant.places l.invariant.s2 w.s2;
    }
