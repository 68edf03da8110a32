use Rattle.listing.proofs.Clashes.{Numbered}
use Rattle.listing.proofs.hashed.Hashed.clash.Given as goal

-- the triples before this place have their numbers in the map
abbrev pub invariant-loop-at : goal.invariant-loop-at
invariant-loop-at g l = Numbered l.triple-items l.at l.numbers
