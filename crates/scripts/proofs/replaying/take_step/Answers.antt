use Rattle.std.proofs.Common.{◌-◌}
use Rattle.runs.specs.Runs.{Lent}
use Rattle.scripts.proofs.Stepping.{lent_part, step_taken}
use Rattle.scripts.proofs.replaying.take_step.Goals as goal

pub returns : goal.returns
returns g c =
    let n : Lent = record {
      rows = c.min-row_count.result - 0;
      tables = c.min-table_count.result - 0;
      edges = c.min-edge_count.result - 0;
      vertices = c.min-vertex_count.result - 0;
      heap = c.min-heap_count.result - 0;
      ordered = c.min-ordered_count.result - 0;
      slots = c.min-slot_count.result - 0;
    } in
    step_taken g.N.Kind.spelling g.N.Kind.number g.W.Way.meaning c.args.step.now n (c.min-room.result - 0) _ c.args.string.now
    (lent_part _ _ _ c.min-row_count.ensures) (lent_part _ _ _ c.min-table_count.ensures) (lent_part _ _ _ c.min-edge_count.ensures) (lent_part _ _ _ c.min-vertex_count.ensures)
    (lent_part _ _ _ c.min-heap_count.ensures) (lent_part _ _ _ c.min-ordered_count.ensures) (lent_part _ _ _ c.min-slot_count.ensures) (lent_part _ _ _ c.min-room.ensures)
    c.perform.ensures
