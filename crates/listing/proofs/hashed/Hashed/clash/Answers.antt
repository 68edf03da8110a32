use Rattle.std.proofs.Common.{sym, ◌∙◌, arith}
use Rattle.std.proofs.lemmas.Option.{slice_get-get_or}
use Rattle.listing.proofs.Clashes.{first_clash, numbered_more}
use Rattle.listing.proofs.hashed.Hashed.clash.Goals as goal

pub returns-in-Some : goal.returns-in-Some
returns-in-Some g c =
    let here = slice_get-get_or c.deref-triple-items.result.now c.loop-at.at (0, 0, 0) (omega arith) in
    rw (← c.deref-triple-items.ensures.value) (first_clash c.loop-at.invariant here (sym c.in-Some.is ∙ c.in_ok-earlier.ensures.old))

pub loop-at-preserved : goal.loop-at-preserved
loop-at-preserved g c =
    let here = slice_get-get_or c.deref-triple-items.result.now c.loop-at.at (0, 0, 0) (omega arith) in
    numbered_more c.loop-at.invariant here (sym c.in_default.is ∙ c.in_ok-earlier.ensures.old) _ c.in_ok-earlier.ensures.updates
