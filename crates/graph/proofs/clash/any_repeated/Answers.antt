use Rattle.std.proofs.Common.{◌≡◌, ◌-◌, true, false, length, refl, arith, rules, tests}
use Rattle.std.proofs.lemmas.Iterator.{cases_from_any, YieldsList-from_range}
use Rattle.graph.proofs.Clashing.{Told, clashes_is}
use Rattle.graph.proofs.clash.any_repeated.Goals as goal

pub returns : goal.returns
returns c =
    let edges = c.args.edges.now in
    let n = length edges in
    let z : n - 0 ≡ n = omega arith in
    let all = YieldsList-from_range 0 n n refl z in
    λ es long h. clashes_is edges es n long h c.any.result
    (cases_from_any c.any.new.self _ c.any.result (Told edges true) (Told edges false) c.any.ensures.ran all (λ x q k. search (rules, tests)) (λ x q k. search (rules, tests)))
