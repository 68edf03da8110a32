use Rattle.std.proofs.Common.{◌≡◌, ◌*◌, ◌%◌, ◌≤◌, sym, ap, ◌∙◌, subst}
use Rattle.hashing.specs.Generator.{next}
use Rattle.hashing.proofs.Drawing.{step_in_range}
use Rattle.hashing.proofs.seed.Seed.next.Goals as goal

pub returns : goal.returns
returns c = c.remainder-state.ensures ∙ ap (λ v. 16807 * v % 2147483647) c.from.ensures

pub invariant_of-result : goal.invariant_of-result
invariant_of-result c =
    let x = c.args.self in
    let e : c.remainder-state.result ≡ next x.value = c.remainder-state.ensures ∙ ap (λ v. 16807 * v % 2147483647) c.from.ensures in
    let h = step_in_range x.value (x.low, x.high) in
    record { low = subst (λ v. 1 ≤ v) (sym e) h.0; high = subst (λ v. v ≤ 2147483646) (sym e) h.1 }
