use Rattle.std.proofs.Common.{Err, sym, refl, ap, ◌∙◌}
use Rattle.std.proofs.lemmas.Result.{err_from_is_err_and}
use Rattle.pressing.proofs.Room.{ok_or_none}
use Rattle.pressing.proofs.SealCall as step
use Rattle.pressing.proofs.press.Pressing.seal.Goals as goal

pub returns-in_err-next : goal.returns-in_err-next
returns-in_err-next g c =
    let q = err_from_is_err_and c.from_residual.result c.from_residual.ensures.1 in
    step.barred _ _ _ _ _ _ (sym c.begin.ensures ∙ c.in_err-next.was) (q.1 ∙ ap Err q.2)

pub returns-in_err-len : goal.returns-in_err-len
returns-in_err-len g c =
    let s = c.in_ok-sizes.ensures.1 in
    let q = err_from_is_err_and c.from_residual-in_err-len.result c.from_residual-in_err-len.ensures.1 in
    let n = ok_or_none c.write_plate-written.result _ _ c.in_err-len.ensures.value in
    step.too_short _ _ _ _ _ (sym c.begin.ensures ∙ c.in_ok-next.was) s.0 s.1 c.in_ok-seed.ensures.1 _ _ n.0 c.write_plate-written.ensures
    _ (q.1 ∙ ap Err (q.2 ∙ n.1))

pub returns : goal.returns
returns g c =
    let s = c.in_ok-sizes.ensures.1 in
    step.accepted _ _ _ _ _ (sym c.begin.ensures ∙ c.in_ok-next.was) s.0 s.1 c.in_ok-seed.ensures.1 _ _ c.in_ok-len.ensures.ok_part
    c.write_plate-written.ensures _ refl refl refl (record { r = refl; seed = refl; level = refl })
