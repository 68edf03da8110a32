use Rattle.std.proofs.Common.{◌≡◌, ◌-◌, true, false, Some, length, drop, refl, sym, subst, ◌∙◌, rules, tests, arith}
use Rattle.std.proofs.lemmas.List.{take_all, length-drop}
use Rattle.std.proofs.lemmas.Iterator.{IsFirst-from_position, YieldsList-from_slice}
use Rattle.graph.specs.declared.rows.Vertex.{Vertex}
use Rattle.ordering.specs.Queue.{Led, degree_at}
use Rattle.ordering.proofs.Starts.{hit, resumed_best}
use Rattle.ordering.proofs.queue.resume.Goals as goal

pub returns : goal.returns
returns c =
    let vertices = c.args.vertices.now in
    let b = c.from-from.result in
    let most = degree_at vertices b in
    resumed_best (length vertices) vertices b c.in_ok-ahead.ahead refl (subst (Led (length vertices) vertices) (sym c.from-from.ensures) c.requires.1)
    (IsFirst-from_position c.position.new.self _ (Some c.in_ok-ahead.ahead) (λ (x : Vertex). hit most x ≡ true) (λ (x : Vertex). hit most x ≡ false) c.in_ok-ahead.ensures.ran
    (YieldsList-from_slice (drop b vertices) (c.iter.ensures.rest ∙ take_all (length vertices - b) (drop b vertices) (omega (arith, length-drop b vertices)))) (λ x q k. search (rules, tests)) (λ x q k. search (rules, tests)))
