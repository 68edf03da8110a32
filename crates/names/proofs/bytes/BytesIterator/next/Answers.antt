use Rattle.std.proofs.Common.{◌≡◌, ◌+◌, ◌∙◌, ◌∷◌, drop, get_or, sym, arith}
use Rattle.std.proofs.lemmas.List.{drop_more}
use Rattle.names.proofs.Spelled.{at_place}
use Rattle.names.proofs.bytes.BytesIterator.next.Goals as goal

pub returns-clause-steps : goal.returns-clause-steps
returns-clause-steps g c =
    let at = c.args.self.now.given in
    let s = g.N.Kind.spelling c.args.self.now.name.now in
    let told : get_or s at 0 ≡ c.byte.result = sym (at_place s at) ∙ sym c.byte.ensures in
    drop_more s at 0 (omega arith) ∙ (λ i. told i ∷ drop (at + 1) s)
