use Rattle.std.proofs.Common.{sym, refl, ◌∙◌}
use Rattle.pressing.proofs.EnterCall as step
use Rattle.pressing.proofs.press.Pressing.reopen.Goals as goal

pub returns : goal.returns
returns g c = step.reopen_done _ _ (sym c.after.ensures ∙ c.in_ok-self.was) _ refl refl (record { r = refl; seed = refl; level = refl })
