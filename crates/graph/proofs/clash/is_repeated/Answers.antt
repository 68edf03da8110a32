use Rattle.std.proofs.Common.{◌≡◌, ℕ, true, false, refl, rules, tests}
use Rattle.std.proofs.lemmas.Iterator.{cases_from_any}
use Rattle.std.proofs.lemmas.Iterator.Consumers.{YieldsList-from_first}
use Rattle.graph.specs.declared.rows.Edge.{Edge}
use Rattle.graph.specs.declared.chain.Chain.{Chain}
use Rattle.graph.specs.Chains.{link}
use Rattle.graph.specs.Walks.{walk}
use Rattle.graph.proofs.Clashing.{alike_edges, repeats_from}
use Rattle.graph.proofs.clash.is_repeated.Goals as goal

pub returns : goal.returns
returns c =
    let e = link c.args.edges.now c.args.i in
    let n = c.new.ensures.starts in
    let s = c.new.result in
    λ es l h.
    repeats_from es c.args.edges.now c.args.i l h c.requires s.edges.now s.at s.low n c.any.result
    (cases_from_any c.any.new.self _ c.any.result (λ (p : ℕ × Edge). alike_edges e p.1 ≡ true) (λ (p : ℕ × Edge). alike_edges e p.1 ≡ false) c.any.ensures.ran
    (YieldsList-from_first (λ x. x) (λ (s : Chain). walk s.low s.edges.now s.at) _ refl)
    (λ x q k. search (rules, tests)) (λ x q k. search (rules, tests)))
