use Rattle.std.proofs.Common.{add-one, arith}
use Rattle.hashing.proofs.Drawing.{get_or_tables, after_in_range}
use Rattle.hashing.proofs.laws.tables_hold_the_draws.Goals as goal

pub returns : goal.returns
returns c = record {
  placed = λ seed f place byte a b d e. rw add-one (get_or_tables seed _ (omega arith));
  in_range = λ seed k h. after_in_range k seed h;
}
