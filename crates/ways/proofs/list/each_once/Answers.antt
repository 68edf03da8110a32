use Rattle.std.proofs.Common.{get_or, refl, arith}
use Rattle.ways.proofs.Marks.{marked_none}
use Rattle.ways.proofs.list.each_once.Goals as goal

pub loop-x-init : goal.loop-x-init
loop-x-init c = (refl, (λ j h. absurd (omega arith)), marked_none (λ j. get_or c.args.xs.now j 0) 1024)
