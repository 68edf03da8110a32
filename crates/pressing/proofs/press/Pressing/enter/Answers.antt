use Rattle.std.proofs.Common.{◌<◌, length, Err, sym, refl, ap, ◌∙◌, arith, rules}
use Rattle.std.proofs.lemmas.Result.{err_from_is_err_and}
use Rattle.pressing.specs.Memory.{held}
use Rattle.pressing.proofs.EnterCall as step
use Rattle.pressing.proofs.press.Pressing.enter.Goals as goal

pub returns-in_err-next : goal.returns-in_err-next
returns-in_err-next g c =
    let q = err_from_is_err_and c.from_residual.result c.from_residual.ensures.1 in
    step.barred _ _ _ _ _ _ (sym c.begin.ensures ∙ c.in_err-next.was) (q.1 ∙ ap Err q.2)

pub returns-then-count-ge-MOST_NAMES : goal.returns-then-count-ge-MOST_NAMES
returns-then-count-ge-MOST_NAMES g c =
    step.full _ _ _ _ _ (sym c.begin.ensures ∙ c.in_ok-next.was) c.if-count-ge-MOST_NAMES.true

pub returns-then-is_entered : goal.returns-then-is_entered
returns-then-is_entered g c =
    step.twice _ _ _ _ _ (sym c.begin.ensures ∙ c.in_ok-next.was) c.if-count-ge-MOST_NAMES.false c.if-is_entered.ensures

pub offset_bounds-rows-count : goal.offset_bounds-rows-count
offset_bounds-rows-count g c =
    let within : c.args.self.now.count < length c.args.lists.rows.now = step.within g.N.Kind.spelling c.args.name c.args.setting c.args.self.now (held c.args.lists) (sym c.begin.ensures ∙ c.in_ok-next.was) c.if-count-ge-MOST_NAMES.false in
    search rules

pub returns : goal.returns
returns g c =
    let small : c.args.setting < 65536 = omega arith in
    step.accepted _ _ _ _ _ (sym c.begin.ensures ∙ c.in_ok-next.was) c.if-count-ge-MOST_NAMES.false
    small _ refl refl (record { r = refl; seed = refl; level = refl }) c.if-is_entered.ensures
