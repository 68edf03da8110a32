use Rattle.std.proofs.Common.{◌+◌, ◌/◌, ap}
use Rattle.std.proofs.lemmas.Nat.{and_mask}
use Rattle.hashing.proofs.Drawing.{folded_low, folded_high}
use Rattle.hashing.proofs.seed.remainder.Goals as goal

pub returns-then-folded-lt-MODULUS : goal.returns-then-folded-lt-MODULUS
returns-then-folded-lt-MODULUS c =
    let y = c.args.product in
    folded_low y _ (ap (λ v. v + y / 2147483648) (and_mask y 31)) c.if-folded-lt-MODULUS.true

pub returns-else-folded-lt-MODULUS : goal.returns-else-folded-lt-MODULUS
returns-else-folded-lt-MODULUS c =
    let y = c.args.product in
    folded_high y _ c.requires (ap (λ v. v + y / 2147483648) (and_mask y 31)) c.if-folded-lt-MODULUS.false
