use Rattle.std.proofs.Common.{◌≡◌, ◌&&◌, true, length, sym, ap, ◌∙◌, rules, tests}
use Rattle.std.proofs.lemmas.Iterator.{YieldsList-from_slice}
use Rattle.std.proofs.lemmas.Iterator.Search.{all_from_yields_List}
use Rattle.names.specs.Spellings.{in_range}
use Rattle.names.specs.Points.{all_visible}
use Rattle.names.proofs.point.is_point.Goals as goal

pub returns-then-contains : goal.returns-then-contains
returns-then-contains c =
    let s = c.args.bytes.now in
    let all : c.all.result ≡ all_visible s = all_from_yields_List (in_range 33 126) _ _ _ c.all.ensures.ran (YieldsList-from_slice s cc) (λ x b q k. search (rules, tests)) in
    let few : in_range 1 16 (length s) ≡ true = search rules in
    all ∙ ap (λ b. b && all_visible s) (sym few)
