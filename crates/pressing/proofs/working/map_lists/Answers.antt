use Rattle.std.proofs.Common.{not, sym, ap, ◌∙◌}
use Rattle.std.proofs.lemmas.Option.{MatchOption-at_some}
use Rattle.refusals.specs.Checks.{unless, with_value}
use Rattle.runs.specs.declared.fault.PressFault.TheVariants.{Clash}
use Rattle.pressing.proofs.Worked.{never_short, map_worked}
use Rattle.pressing.proofs.working.map_lists.Goals as goal

pub returns-in_err-fill : goal.returns-in_err-fill
returns-in_err-fill g c = absurd (never_short c.args.tables.now _ _ c.requires.1 c.fill.ensures.answer c.in_err-fill.was)

pub returns-then-clashes : goal.returns-then-clashes
returns-then-clashes g c =
    let written = MatchOption-at_some _ _ _ c.in_ok-ok_or.ensures.ok_part c.map_names.ensures in
    let told = MatchOption-at_some _ _ _ c.in_ok-clashes.ensures.ok_part c.clash.ensures in
    map_worked g.N.Kind.spelling c.args.sizes.n c.args.sizes.r c.args.seed.value c.args.rows.now c.args.tables.now c.fill.new.memory _ _ _ _
    c.args.sizes.n_to_1024 c.requires.0 c.requires.1 c.fill.ensures.memory
    c.from-count.result (c.from-count.ensures ∙ c.n.ensures) written c.in_ok-clashes.clashes told.1
    _ (sym (ap (λ b. with_value (unless (not b) Clash) tt) c.if-clashes.true))

pub returns : goal.returns
returns g c =
    let written = MatchOption-at_some _ _ _ c.in_ok-ok_or.ensures.ok_part c.map_names.ensures in
    let told = MatchOption-at_some _ _ _ c.in_ok-clashes.ensures.ok_part c.clash.ensures in
    map_worked g.N.Kind.spelling c.args.sizes.n c.args.sizes.r c.args.seed.value c.args.rows.now c.args.tables.now c.fill.new.memory _ _ _ _
    c.args.sizes.n_to_1024 c.requires.0 c.requires.1 c.fill.ensures.memory
    c.from-count.result (c.from-count.ensures ∙ c.n.ensures) written c.in_ok-clashes.clashes told.1
    _ (sym (ap (λ b. with_value (unless (not b) Clash) tt) c.if-clashes.false))
