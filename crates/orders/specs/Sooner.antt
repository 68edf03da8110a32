use Rattle.std.specs.Prelude.{Bool, cond, ◌==◌, nat_lt}
use Rattle.orders.specs.declared.waiting.Waiting.{Waiting}

-- a has the greater degree, or the same and the lower number
abbrev pub sooner : Waiting → Waiting → Bool
sooner a b = cond (a.degree == b.degree) (nat_lt a.vertex b.vertex) (nat_lt b.degree a.degree)
