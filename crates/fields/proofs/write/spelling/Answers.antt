use Rattle.std.proofs.Common.{◌+◌, ◌∷◌, get_or, sym, refl, ◌∙◌, rules}
use Rattle.std.proofs.lemmas.List.FromFn.{fill_by_all}
use Rattle.runs.specs.Plates.{padded}
use Rattle.fields.proofs.Spelled.{length_padded, told_padded, made}
use Rattle.fields.proofs.write.spelling.Goals as goal

pub returns : goal.returns
returns g c =
    let s = g.N.Kind.spelling c.args.name.now in
    let ys = c.from_fn.result in
    let is = c.from_fn.ensures.items in
    let told = made (λ i. get_or (0 ∷ s) (i + 1) 0) is (λ i y q k. search rules) in
    fill_by_all (λ k. get_or (padded s) k 0) ys 16 0 is.long (λ k l. told_padded s k (get_or ys k 0) (told k l)) ∙
    sym (fill_by_all (λ k. get_or (padded s) k 0) (padded s) 16 0 (length_padded s (g.met.N.Kind.spelling_to_16 c.args.name.now)) (λ k l. refl))
