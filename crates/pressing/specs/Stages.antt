-- The stage to which a call belongs, and the stage to which it leads.
use Rattle.std.specs.Prelude.{Bool, cond, not, [], ◌∷◌, Result}
use Rattle.refusals.specs.Checks.{unless, first, with_value}
use Rattle.runs.specs.declared.stage.Stage.{Stage}
use Rattle.runs.specs.declared.stage.Stage.TheVariants.{Open, Mapped, Ordered, Fitted, Sealed}
use Rattle.runs.specs.declared.fault.PressFault.{PressFault}
use Rattle.runs.specs.declared.fault.PressFault.TheVariants.{WrongStage, ShortList}
use Rattle.runs.specs.Runs.{Lent, ample, is}
use Rattle.pressing.specs.declared.stage.Event.{Event}
use Rattle.pressing.specs.declared.stage.Event.TheVariants.{Enter, Map, Order, Fit, Seal, Reopen}

abbrev pub belongs : Event → Stage → Bool
belongs Enter s = is s Open
belongs Map s = is s Open
belongs Order s = is s Mapped
belongs (Fit last) s = is s Ordered
belongs Seal s = is s Fitted
belongs Reopen s = not (is s Sealed)

abbrev pub leads : Event → Stage
leads Enter = Open
leads Map = Mapped
leads Order = Ordered
leads (Fit last) = cond last Fitted Ordered
leads Seal = Sealed
leads Reopen = Open

abbrev pub next_stage : Event → Stage → Result Stage PressFault
next_stage e s = with_value (unless (belongs e s) WrongStage) (leads e)

-- the same for a call that is lent lists, by their lengths too
abbrev pub begun : Event → Stage → Lent → Result Stage PressFault
begun e s l = with_value (first (unless (belongs e s) WrongStage ∷ unless (ample l) ShortList ∷ [])) (leads e)
