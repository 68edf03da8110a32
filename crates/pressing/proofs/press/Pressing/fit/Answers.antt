use Rattle.std.proofs.Common.{Err, sym, refl, ap, ◌∙◌}
use Rattle.std.proofs.lemmas.Result.{err_from_is_err_and}
use Rattle.pressing.proofs.Room.{ok_or_none}
use Rattle.pressing.proofs.FitCall as step
use Rattle.pressing.proofs.press.Pressing.fit.Goals as goal

pub returns-in_err-next : goal.returns-in_err-next
returns-in_err-next g c =
    let q = err_from_is_err_and c.from_residual.result c.from_residual.ensures.1 in
    step.barred _ _ _ _ _ _ (sym c.begin.ensures ∙ c.in_err-next.was) (q.1 ∙ ap Err q.2)

pub returns-then-from-count : goal.returns-then-from-count
returns-then-from-count g c =
    step.other_size _ _ _ _ _ (sym c.begin.ensures ∙ c.in_ok-next.was)
    (λ e. c.if-from-count.true (c.from.ensures ∙ c.size.ensures ∙ e))

pub returns-then-level-self : goal.returns-then-level-self
returns-then-level-self g c =
    step.none_left _ _ _ _ _ (sym c.begin.ensures ∙ c.in_ok-next.was)
    (sym c.size.ensures ∙ sym c.from.ensures ∙ c.if-from-count.false) c.if-level-self.true

pub returns-in_err-rotation : goal.returns-in_err-rotation
returns-in_err-rotation g c =
    let q = err_from_is_err_and c.from_residual-in_err-rotation.result c.from_residual-in_err-rotation.ensures.1 in
    let n = ok_or_none c.fit_level-found.result _ _ c.in_err-rotation.ensures.value in
    step.unfound _ _ _ _ _ (sym c.begin.ensures ∙ c.in_ok-next.was)
    (sym c.size.ensures ∙ sym c.from.ensures ∙ c.if-from-count.false) c.if-level-self.false c.from-r.ensures c.from-2.ensures _ _ _
    c.fit_level-found.ensures.told n.0 c.fit_level-found.ensures.given _ (q.1 ∙ ap Err (q.2 ∙ n.1))

pub returns : goal.returns
returns g c =
    step.accepted _ _ _ _ _ (sym c.begin.ensures ∙ c.in_ok-next.was)
    (sym c.size.ensures ∙ sym c.from.ensures ∙ c.if-from-count.false) c.if-level-self.false c.from-r.ensures c.from-2.ensures _ _ _
    c.fit_level-found.ensures.told (g.met.W.Way.laws c.args.way.now) c.fit_level-found.auto.slots refl c.in_ok-rotation.ensures.ok_part c.fit_level-found.ensures.given
    _ refl refl refl refl refl refl
