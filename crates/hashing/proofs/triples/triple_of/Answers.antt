use Rattle.std.proofs.Common.{◌≡◌, true, length, drop, sym, ◌∙◌, map-id}
use Rattle.std.proofs.lemmas.Iterator.{items_from_drains}
use Rattle.std.proofs.lemmas.Iterator.Consumers.{YieldsList-from_first}
use Rattle.names.specs.Spellings.{in_range}
use Rattle.names.specs.Judged.{in_range_yes}
use Rattle.hashing.proofs.Summing.{hashed_so}
use Rattle.hashing.proofs.triples.triple_of.Goals as goal

pub returns : goal.returns
returns g c =
    let x = c.args.name.now in
    let s = g.N.Kind.spelling x in
    let w = c.over-2.ensures in
    let xs = w.0 in
    let d = w.1 in
    let road = YieldsList-from_first (λ b. b) (λ t. drop t.given (g.N.Kind.spelling t.name.now)) s (λ i. drop (c.of.ensures.1 i) (g.N.Kind.spelling (c.of.ensures.0 i))) in
    let all : xs ≡ s = sym (map-id xs) ∙ items_from_drains xs (d.1.0, d.1.1, λ _. (d.0, d.1.2)) road in
    let few : in_range 1 16 (length s) ≡ true = in_range_yes 1 16 (length s) (g.met.N.Kind.spelling_from_1 x) (g.met.N.Kind.spelling_to_16 x) in
    let t = c.in_ok-tables.ensures in
    hashed_so c.args.tables.now c.in_ok-tables.tables.numbers.now c.args.sizes.n c.args.sizes.r s xs c.over-2.result t.0 few t.1 all w.2 w.3 w.4 c.triple.ensures
