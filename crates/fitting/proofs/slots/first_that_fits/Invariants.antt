use Rattle.std.proofs.Common.{◌≡◌, ℕ, ◌+◌, ◌-◌, ◌%◌, ◌<◌, ◌≤◌, false, List, get_or, is_some, None}
use Rattle.ways.specs.Permutation.{asked}
use Rattle.runs.specs.Fitting.{first_fit}
use Rattle.fitting.specs.Placing.{offsets, FilledAre}
use Rattle.fitting.proofs.slots.first_that_fits.Given as goal

-- the slots of the names before this one are empty
abbrev pub invariant-placing : goal.invariant-placing
invariant-placing g l = (k : ℕ) → k < l.name-index → is_some (get_or l.slots ((get_or (offsets l.level) k 0 + l.v) % l.n) None) ≡ false

-- the search from this step on gives what the whole search gives
abbrev pub invariant-trying : goal.invariant-trying
invariant-trying g l = (l.step ≤ l.n)
    × ((filled : List ℕ) → FilledAre filled l.slots →
    first_fit l.n (asked (g.W.Way.meaning l.way) l.number) filled (offsets l.level) (l.n - l.step) l.step
    ≡ first_fit l.n (asked (g.W.Way.meaning l.way) l.number) filled (offsets l.level) l.n 0)

abbrev pub decreases-trying : goal.decreases-trying
decreases-trying g l = l.n - l.step
