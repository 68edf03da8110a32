use Rattle.std.proofs.Common.{◌≡◌, length, drop}
use Rattle.runs.specs.Runs.{Run}
use Rattle.pressing.specs.Memory.{memory, lent}
use Rattle.scripts.specs.Script.{Holds}
use Rattle.scripts.proofs.Stepping.{SoFar}
use Rattle.scripts.proofs.replaying.replay.Given as goal

abbrev pub invariant-loop-i : goal.invariant-loop-i
invariant-loop-i g l =
    ((m : Run g.row.N.Denot) →
    Holds g.N.Kind.spelling g.N.Kind.number m l.initial.pressing (memory l.initial.rows l.initial.tables l.initial.edges l.initial.vertices l.initial.heap l.initial.ordered l.initial.slots) l.initial.string →
    SoFar g.N.Kind.spelling g.N.Kind.number g.W.Way.meaning (lent (memory l.initial.rows l.initial.tables l.initial.edges l.initial.vertices l.initial.heap l.initial.ordered l.initial.slots)) (length l.initial.string) l.script m l.i
    l.pressing (memory l.rows l.tables l.edges l.vertices l.heap l.ordered l.slots) l.string l.answers) ×
    (drop (length l.script) l.answers ≡ drop (length l.script) l.initial.answers)
