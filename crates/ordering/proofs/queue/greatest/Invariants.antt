use Rattle.std.proofs.Common.{◌≡◌}
use Rattle.ordering.specs.Queue.{Greatest, degree_at, unseen_at}
use Rattle.ordering.proofs.Starts.{most_of}
use Rattle.ordering.proofs.queue.greatest.Given as goal

abbrev pub invariant-loop-v : goal.invariant-loop-v
invariant-loop-v l = Greatest (degree_at l.vertices) (unseen_at l.vertices) l.v l.best × (l.most ≡ most_of (degree_at l.vertices) l.best)
