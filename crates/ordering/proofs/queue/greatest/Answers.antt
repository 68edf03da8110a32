use Rattle.std.proofs.Common.{sym}
use Rattle.ordering.specs.Queue.{degree_at, unseen_at}
use Rattle.ordering.proofs.Starts.{so_far_found, so_far_kept, step_seen, step_less}
use Rattle.ordering.proofs.queue.greatest.Goals as goal
use Rattle.ordering.proofs.queue.greatest.Goals.{then-unseen+then-most-x, else-unseen, else-unseen-via-then-unseen+else-most-x, else-unseen-via-else-unseen}

pub loop-v-preserved : goal.loop-v-preserved
loop-v-preserved c =
    let d = degree_at c.args.vertices.now in
    let ok = unseen_at c.args.vertices.now in
    let l = c.loop-v in
    elim c.if-unseen.branch [
      | then-unseen+then-most-x w ↦ so_far_found d ok l.v l.best c.if-unseen.best l.most c.if-unseen.most l.invariant w.best-is w.most-is (sym w.if-unseen.ensures) w.if-most-x.true
      | else-unseen w ↦ elim w.else-unseen.branch [
        | else-unseen-via-then-unseen+else-most-x x ↦ so_far_kept d ok l.v l.best c.if-unseen.best l.most c.if-unseen.most (step_less d ok l.v l.best l.most l.invariant.0 l.invariant.1 x.if-most-x.false) l.invariant.1 w.best-is w.most-is
        | else-unseen-via-else-unseen x ↦ so_far_kept d ok l.v l.best c.if-unseen.best l.most c.if-unseen.most (step_seen d ok l.v l.best l.invariant.0 (sym x.if-unseen.ensures)) l.invariant.1 w.best-is w.most-is
      ]
    ]
