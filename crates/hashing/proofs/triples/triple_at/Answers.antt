use Rattle.std.proofs.Common.{◌≡◌, true, length, sym, ◌∙◌, map-id, rules}
use Rattle.std.proofs.lemmas.Iterator.{YieldsList-from_slice, items_from_drains}
use Rattle.std.proofs.lemmas.Iterator.Consumers.{YieldsList-from_copied, YieldsList-at}
use Rattle.names.specs.Spellings.{in_range}
use Rattle.hashing.proofs.Summing.{hashed_so}
use Rattle.hashing.proofs.triples.triple_at.Goals as goal

pub returns : goal.returns
returns c =
    let s = c.args.bytes.now in
    let w = c.over-2.ensures in
    let xs = w.0 in
    let d = w.1 in
    let road = YieldsList-from_copied (YieldsList-at c.copied.ensures.source (YieldsList-from_slice s cc)) in
    let all : xs ≡ s = sym (map-id xs) ∙ items_from_drains xs (d.1.0, d.1.1, λ _. (d.0, d.1.2)) road in
    let few : in_range 1 16 (length s) ≡ true = search rules in
    let t = c.in_ok-tables.ensures in
    hashed_so c.args.tables.now c.in_ok-tables.tables.numbers.now c.args.sizes.n c.args.sizes.r s xs c.over-2.result t.0 few t.1 all w.2 w.3 w.4 c.triple.ensures
