-- Work lists of full length.
use Rattle.std.specs.Prelude.{◌≡◌, length}
use Rattle.pressing.specs.Memory.{Memory, memory}
use Rattle.lending.specs.declared.WorkLists.{WorkLists}

pub record IsFull {N : Type 0} (w : WorkLists N) : Type 0 where
  pub rows : length w.rows.items ≡ 1024
  pub tables : length w.tables.items ≡ 12288
  pub edges : length w.edges.items ≡ 1024
  pub vertices : length w.vertices.items ≡ 2048
  pub heap : length w.heap.items ≡ 2048
  pub ordered : length w.ordered.items ≡ 2048
  pub slots : length w.slots.items ≡ 1024

-- what the work lists hold, as it is lent
abbrev pub whole : {N : Type 0} → WorkLists N → Memory N
whole w = memory w.rows.items w.tables.items w.edges.items w.vertices.items w.heap.items w.ordered.items w.slots.items
