use Rattle.std.proofs.Common.{◌≡◌, ◌-◌, take, ap, ◌∙◌, arith, rules, tests}
use Rattle.std.specs.Str.{bytes_eq}
use Rattle.std.proofs.lemmas.Iterator.{YieldsList-from_slice}
use Rattle.std.proofs.lemmas.Iterator.Search.{any_from_yields_List}
use Rattle.pressing.proofs.Spelled.{any_has}
use Rattle.pressing.proofs.entering.is_entered.Goals as goal

pub returns : goal.returns
returns g c =
    let sp = g.N.Kind.spelling in
    let rows = take c.args.count c.args.rows.now in
    let whole : c.args.count - 0 ≡ c.args.count = omega arith in
    any_from_yields_List (λ x. bytes_eq (sp c.args.name.now) (sp x.name)) _ _ _ c.any.ensures.ran (YieldsList-from_slice rows (c.iter.ensures.rest ∙ ap (λ k. take k c.args.rows.now) whole)) (λ x b q k. search (rules, tests))
    ∙ any_has (λ x. sp x.name) (sp c.args.name.now) rows
