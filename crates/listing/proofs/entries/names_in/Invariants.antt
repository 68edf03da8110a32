use Rattle.std.proofs.Common.{string_bytes}
use Rattle.typing.specs.Lines.{AddsLines}
use Rattle.listing.proofs.entries.names_in.Given as goal

-- whole lines are added so far
abbrev pub invariant-loop-at : goal.invariant-loop-at
invariant-loop-at g l = AddsLines (string_bytes l.fn.out) (string_bytes l.out)
