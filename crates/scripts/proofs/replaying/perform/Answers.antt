use Rattle.std.proofs.Common.{rules}
use Rattle.scripts.proofs.Performing as one
use Rattle.scripts.proofs.replaying.perform.Goals as goal

pub returns-in-Enter : goal.returns-in-Enter
returns-in-Enter g c = one.entering _ _ _ _ _ c.in-Enter.is c.enter-entered.ensures (one.mapped_answer _ _ _ _ (λ x y k. search rules) c.map.ensures.cases)

pub returns-in-Map : goal.returns-in-Map
returns-in-Map g c = one.mapping _ _ _ _ _ c.in-Map.is c.map-in-Map.ensures (one.mapped_answer _ _ _ _ (λ x y k. search rules) c.map-in-Map-2.ensures.cases)

pub returns-in-Order : goal.returns-in-Order
returns-in-Order g c = one.ordering _ _ _ _ _ c.in-Order.is c.order.ensures (one.mapped_answer _ _ _ _ (λ x y k. search rules) c.map-in-Order.ensures.cases)

pub returns-in-Fit : goal.returns-in-Fit
returns-in-Fit g c = one.fitting _ _ _ _ _ c.in-Fit.is c.fit-found.ensures (one.mapped_answer _ _ _ _ (λ x y k. search rules) c.map-in-Fit.ensures.cases)

pub returns-in-Reopen : goal.returns-in-Reopen
returns-in-Reopen g c = one.reopening _ _ _ _ _ c.in-Reopen.is c.reopen.ensures (one.mapped_answer _ _ _ _ (λ x y k. search rules) c.map-in-Reopen.ensures.cases)

pub returns-in-Seal : goal.returns-in-Seal
returns-in-Seal g c = one.sealing _ _ _ _ _ c.in-Seal.is c.seal.ensures (one.mapped_answer _ _ _ _ (λ x y k. search rules) c.map-in-Seal.ensures.cases)
