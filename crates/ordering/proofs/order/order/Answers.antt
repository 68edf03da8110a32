use Rattle.std.proofs.Common.{◌≡◌, ◌-◌, leb, length, take, sym, rules, ◌∙◌, arith}
use Rattle.std.proofs.lemmas.Bool.{and_parts, leb-true}
use Rattle.std.proofs.lemmas.List.{length-take-le}
use Rattle.std.proofs.lemmas.Slice.{overwrites}
use Rattle.graph.proofs.Walked.{graph_part}
use Rattle.ordering.proofs.Arranging.{ordered_whole}
use Rattle.ordering.proofs.order.order.Goals as goal

pub returns : goal.returns
returns c =
    let a = c.arrange.ensures in
    let n = c.args.n in
    let edges = c.args.edges.now in
    let there = leb-true n (length edges) (and_parts (leb n (length edges)) _ (and_parts (leb c.args.r 1024) _ (sym c.if-not-fits.ensures)).1).0 in
    let long : length (take (n - 0) edges) ≡ n = length-take-le (n - 0) edges (omega arith) ∙ omega arith in
    record {
      long = sym c.if-not-fits.ensures;
      low = a.low;
      begun = a.begun;
      room_past = search (rules, overwrites);
      ordered_past = a.rest;
      exact = λ es en g. ordered_whole es c.args.r edges (n - 0) _ _ _ (omega arith) (a.exact es (en ∙ sym long) (graph_part es c.args.r edges c.args.vertices.now (n - 0) (omega arith) g));
    }
