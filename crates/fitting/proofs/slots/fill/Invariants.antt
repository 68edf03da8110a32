use Rattle.std.proofs.Common.{◌≡◌, drop}
use Rattle.fitting.specs.Placing.{placed}
use Rattle.fitting.proofs.slots.fill.Given as goal

abbrev pub invariant-loop-name : goal.invariant-loop-name
invariant-loop-name l = placed l.rotation (drop l.name-index l.level) l.slots ≡ placed l.rotation l.level l.initial.slots
