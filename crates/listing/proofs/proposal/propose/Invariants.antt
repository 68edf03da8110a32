use Rattle.std.proofs.Common.{string_bytes}
use Rattle.typing.specs.Lines.{AddsLines}
use Rattle.listing.proofs.proposal.propose.Given as goal

-- whole lines are added so far
abbrev pub invariant-loop-stride : goal.invariant-loop-stride
invariant-loop-stride l = AddsLines (string_bytes l.fn.out) (string_bytes l.out)
