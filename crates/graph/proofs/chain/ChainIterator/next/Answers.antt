use Rattle.std.proofs.Common.{◌≡◌, ◌+◌, ◌-◌, ◌∷◌, length, take, sym, ap, ◌∙◌, arith}
use Rattle.std.proofs.lemmas.Bool.{ltb-true, ltb-false}
use Rattle.std.proofs.lemmas.List.{get_or_default}
use Rattle.graph.specs.Chains.{blank}
use Rattle.graph.specs.Walks.{walk}
use Rattle.graph.proofs.Walked.{walk_ends, walk_steps}
use Rattle.graph.proofs.chain.ChainIterator.next.Goals as goal

pub returns-in_err-row-clause-steps : goal.returns-in_err-row-clause-steps
returns-in_err-row-clause-steps c =
    let s = c.args.self.now in
    let e = walk_ends s.low s.edges.now (length s.edges.now) s.at (λ p q. c.in_err-row.ensures (omega arith)) in
    rw c.from_residual.ensures (e, e)

pub returns-in_err-e-clause-steps : goal.returns-in_err-e-clause-steps
returns-in_err-e-clause-steps c =
    let s = c.args.self.now in
    let past = ltb-false c.in_ok-row.row (length s.edges.now) (sym c.in_err-e.ensures.lookup.0) in
    let e = walk_ends s.low s.edges.now (length s.edges.now) s.at (λ p q. omega (arith, c.in_ok-row.ensures, past)) in
    rw c.from_residual-in_err-e.ensures (e, e)

pub returns-clause-steps : goal.returns-clause-steps
returns-clause-steps c =
    let s = c.args.self.now in
    let row = c.in_ok-row.row in
    let at : s.at ≡ row + 1 = omega (arith, c.in_ok-row.ensures) in
    let there = ltb-true row (length s.edges.now) (sym c.in_ok-e.ensures.lookup.0) in
    let z : row - 0 ≡ row = omega arith in
    walk_steps s.low s.edges.now s.at row c.onward-self.result c.in_ok-e.field-0.now at there (c.in_ok-e.ensures.lookup.1 ∙ get_or_default s.edges.now row c.in_ok-e.field-0.now blank there) c.onward-self.ensures ∙
    ap (λ k. (row, c.in_ok-e.field-0.now) ∷ walk s.low (take k s.edges.now) c.onward-self.result) (sym z)

pub returns-clause-goes : goal.returns-clause-goes
returns-clause-goes c = record { on = λ _. (tt, tt, omega (arith, ap length (returns-clause-steps c))); keeps = tt; rests = λ _. tt }
