use Rattle.std.proofs.Common.{◌≡◌, IfOk, sym, subst, arith, rules, tests}
use Rattle.std.specs.List.{range_with_len}
use Rattle.std.proofs.lemmas.Iterator.{items_from_collect, YieldsList-from_map, YieldsList-from_range}
use Rattle.std.proofs.lemmas.List.FromFn.{length-range_with_len}
use Rattle.std.proofs.lemmas.Simd.{splat_is_map}
use Rattle.lending.proofs.filled.Goals as goal

pub returns : goal.returns
returns g c =
    let n = c.args.len in
    subst (λ xs. IfOk c.collect.result (λ v. v.items ≡ xs)) (sym (splat_is_map (range_with_len 0 n) n c.args.item (length-range_with_len 0 n)))
    (items_from_collect _ c.collect.ensures.ran (YieldsList-from_map _ (λ _. c.args.item) (YieldsList-from_range 0 n n (cc) (omega arith)) c.map.ensures.closure (λ x r q k. search (rules, tests))))
