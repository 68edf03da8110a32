use Rattle.std.proofs.lemmas.Bool.{eqb-true}
use Rattle.ways.proofs.Gcds.{one_coprime}
use Rattle.ways.proofs.stride.are_coprime.Goals as goal

pub returns-clause-yes : goal.returns-clause-yes
returns-clause-yes c = λ e. one_coprime c.args.a c.args.b c.gcd.result c.gcd.ensures (eqb-true c.gcd.result 1 e)
