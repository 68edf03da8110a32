use Rattle.std.proofs.Common.{◌≤◌, Err, sym, refl, ap, ◌∙◌, arith}
use Rattle.std.proofs.lemmas.Result.{err_from_is_err_and}
use Rattle.pressing.specs.Memory.{held, lent}
use Rattle.pressing.specs.declared.stage.Event.TheVariants.{Order}
use Rattle.pressing.proofs.Room.{ample_all}
use Rattle.pressing.proofs.Steps.{passed_by}
use Rattle.pressing.proofs.OrderCall as step
use Rattle.pressing.proofs.press.Pressing.order.Goals as goal

pub returns-in_err-next : goal.returns-in_err-next
returns-in_err-next g c =
    let q = err_from_is_err_and c.from_residual.result c.from_residual.ensures.1 in
    step.barred _ _ _ _ (sym c.begin.ensures ∙ c.in_err-next.was) (q.1 ∙ ap Err q.2)

pub order_lists-levels-requires : goal.order_lists-levels-requires
order_lists-levels-requires g c =
    let l = held c.args.lists in
    let a = ample_all (lent l) (passed_by Order _ (lent l) _ (sym c.begin.ensures ∙ c.in_ok-next.was)).long in
    let few : c.from-r.result ≤ 1024 = omega (arith, c.from-r.ensures, c.args.self.now.few_vertices) in
    (c.args.self.now.few_names, few, a.edges, a.vertices, a.heap, a.ordered, a.slots)

pub returns : goal.returns
returns g c =
    step.accepted _ _ _ (sym c.begin.ensures ∙ c.in_ok-next.was)
    c.order_lists-levels.auto.vertices c.order_lists-levels.auto.heap c.order_lists-levels.auto.ordered c.order_lists-levels.auto.slots
    (step.retold c.from-r.ensures c.order_lists-levels.ensures) _ refl refl refl refl refl refl
