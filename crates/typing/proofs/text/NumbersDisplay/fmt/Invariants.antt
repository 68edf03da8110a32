use Rattle.std.proofs.Common.{◌∷◌, flat_map, decimal, take}
use Rattle.std.specs.Fmt.{HasWritten, IsPlainFormatter}
use Rattle.typing.proofs.text.NumbersDisplay.fmt.Given as goal

-- the numbers before this place are written
abbrev pub invariant-loop-x : goal.invariant-loop-x
invariant-loop-x g l =
    IsPlainFormatter l.initial.f → HasWritten g.W.Write.write_str_gives l.initial.f (flat_map (λ x. 32 ∷ decimal x) (take l.x-index l.x-items)) l.f
