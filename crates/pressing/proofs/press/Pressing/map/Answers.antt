use Rattle.std.proofs.Common.{Err, sym, refl, ap, ◌∙◌}
use Rattle.std.proofs.lemmas.Result.{err_from_is_err_and}
use Rattle.pressing.proofs.MapCall as step
use Rattle.pressing.proofs.press.Pressing.map.Goals as goal

pub returns-in_err-next : goal.returns-in_err-next
returns-in_err-next g c =
    let q = err_from_is_err_and c.from_residual.result c.from_residual.ensures.1 in
    step.barred _ _ _ _ _ _ (sym c.begin.ensures ∙ c.in_err-next.was) (q.1 ∙ ap Err q.2)

pub returns-in_err-sizes : goal.returns-in_err-sizes
returns-in_err-sizes g c =
    let q = err_from_is_err_and c.from_residual-in_err-sizes.result c.from_residual-in_err-sizes.ensures.1 in
    step.bad_sizes _ _ _ _ _ (sym c.begin.ensures ∙ c.in_ok-next.was) _ _ c.in_err-sizes.ensures (q.1 ∙ ap Err q.2)

pub returns-in_err-start : goal.returns-in_err-start
returns-in_err-start g c =
    let q = err_from_is_err_and c.from_residual-in_err-start.result c.from_residual-in_err-start.ensures.1 in
    step.bad_seed _ _ _ _ _ (sym c.begin.ensures ∙ c.in_ok-next.was) _ _ c.in_ok-sizes.ensures.0 c.in_err-start.ensures (q.1 ∙ ap Err q.2)

pub returns-in_err-map_lists : goal.returns-in_err-map_lists
returns-in_err-map_lists g c =
    let q = err_from_is_err_and c.from_residual-in_err-map_lists.result c.from_residual-in_err-map_lists.ensures.1 in
    step.clashed _ _ _ _ _ (sym c.begin.ensures ∙ c.in_ok-next.was) c.in_ok-sizes.ensures.0 c.in_ok-start.ensures.0
    c.map_lists.auto.tables c.map_lists.auto.edges c.map_lists.auto.vertices
    (step.retold c.in_ok-sizes.ensures.1.0 c.in_ok-sizes.ensures.1.1 c.in_ok-start.ensures.1 c.map_lists.ensures)
    _ _ c.in_err-map_lists.was (q.1 ∙ ap Err q.2)

pub returns : goal.returns
returns g c =
    step.accepted _ _ _ _ _ (sym c.begin.ensures ∙ c.in_ok-next.was) c.in_ok-sizes.ensures.0 c.in_ok-start.ensures.0
    c.map_lists.auto.tables c.map_lists.auto.edges c.map_lists.auto.vertices
    (step.retold c.in_ok-sizes.ensures.1.0 c.in_ok-sizes.ensures.1.1 c.in_ok-start.ensures.1 c.map_lists.ensures)
    c.in_ok-map_lists.was _ refl refl refl refl refl
