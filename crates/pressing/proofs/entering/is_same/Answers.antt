use Rattle.std.proofs.Common.{◌∙◌, arith, rules, tests}
use Rattle.std.proofs.lemmas.Iterator.{YieldsList-from_range}
use Rattle.std.proofs.lemmas.Iterator.Search.{all_from_yields_List}
use Rattle.pressing.proofs.Spelled.{same_at, compared}
use Rattle.pressing.proofs.entering.is_same.Goals as goal

pub returns-then-len : goal.returns-then-len
returns-then-len g c =
    let xs = g.N.Kind.spelling c.args.a.now in
    let ys = g.N.Kind.spelling c.args.b.now in
    let n = c.len-len.result in
    all_from_yields_List (same_at xs ys) _ _ _ c.all.ensures.ran (YieldsList-from_range 0 n n (cc) (omega arith)) (λ x b q k. search (rules, tests))
    ∙ compared xs ys c.len-len.ensures (c.if-len.true ∙ c.len.ensures)
