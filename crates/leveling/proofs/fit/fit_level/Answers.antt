use Rattle.std.proofs.Common.{◌≡◌, ◌-◌, length, get_or, take, drop, set, sym, ap, ◌∙◌, subst, arith}
use Rattle.std.proofs.lemmas.List.{length-take-le}
use Rattle.runs.specs.Order.{order}
use Rattle.graph.specs.Chains.{row}
use Rattle.graph.proofs.Walked.{graph_part}
use Rattle.leveling.specs.Level.{valued, chain_names}
use Rattle.leveling.proofs.Answered.{long_from, vertex_is, vertex_low, fitted_none, fitted_some}
use Rattle.leveling.proofs.fit.fit_level.Goals as goal

pub returns-then-v-r-clause-told : goal.returns-then-v-r-clause-told
returns-then-v-r-clause-told g c = λ es values filled fits sized h.
    let is = vertex_is es c.args.r c.args.n values filled c.args.level c.args.edges.now c.args.vertices.now c.args.ordered.now c.args.slots.now h in
    let low = vertex_low es c.args.r c.args.n values filled c.args.level c.args.edges.now c.args.vertices.now c.args.ordered.now c.args.slots.now h in
    absurd (omega (arith, c.from-v.ensures, c.if-v-r.true))

pub returns-in_err-x-clause-told : goal.returns-in_err-x-clause-told
returns-in_err-x-clause-told g c = rw c.from_residual.ensures (λ es values filled fits sized h.
    let n = c.args.n in
    let r = c.args.r in
    let long = long_from n r c.args.level (length c.args.edges.now) (length c.args.vertices.now) (length c.args.ordered.now) (length c.args.slots.now) fits in
    let slots = c.args.slots.now in
    let edges = c.args.edges.now in
    let vertices = c.args.vertices.now in
    let k = c.collect-k.result in
    let v = get_or c.args.ordered.now c.args.level 0 in
    let zn : n - 0 ≡ n = omega arith in
    let zk : k - 0 ≡ k = omega arith in
    let part : length (take (n - 0) edges) ≡ n = ap (λ j. length (take j edges)) zn ∙ length-take-le n edges long.edges_there in
    let names = take (k - 0) c.collect-k.new.names in
    let listed : names ≡ chain_names es n values (take c.args.level (order es r)) v n =
    ap (λ j. take j c.collect-k.new.names) zk ∙
    subst (λ u. take k c.collect-k.new.names ≡ chain_names es (length (take (n - 0) edges)) values (take c.args.level (order es r)) u (length (take (n - 0) edges))) c.from-v.ensures (c.collect-k.ensures.told es values (h.counted ∙ sym part) (graph_part es r edges vertices (n - 0) (omega (arith, h.counted)) h.graph.graph) h.graph.placed h.value_at) ∙
    ap (λ i. chain_names es i values (take c.args.level (order es r)) v i) part in
    fitted_none es r n values filled c.args.level edges vertices c.args.ordered.now slots h long.slots_there names listed
    (g.W.Way.meaning c.args.way.now) (take (n - 0) slots) (ap (λ j. take j slots) zn) sized c.in_err-x.ensures)

pub returns-clause-told : goal.returns-clause-told
returns-clause-told g c = λ es values filled fits sized h.
    let n = c.args.n in
    let r = c.args.r in
    let long = long_from n r c.args.level (length c.args.edges.now) (length c.args.vertices.now) (length c.args.ordered.now) (length c.args.slots.now) fits in
    let slots = c.args.slots.now in
    let edges = c.args.edges.now in
    let vertices = c.args.vertices.now in
    let k = c.collect-k.result in
    let v = get_or c.args.ordered.now c.args.level 0 in
    let zn : n - 0 ≡ n = omega arith in
    let zk : k - 0 ≡ k = omega arith in
    let part : length (take (n - 0) edges) ≡ n = ap (λ j. length (take j edges)) zn ∙ length-take-le n edges long.edges_there in
    let names = take (k - 0) c.collect-k.new.names in
    let listed : names ≡ chain_names es n values (take c.args.level (order es r)) v n =
    ap (λ j. take j c.collect-k.new.names) zk ∙
    subst (λ u. take k c.collect-k.new.names ≡ chain_names es (length (take (n - 0) edges)) values (take c.args.level (order es r)) u (length (take (n - 0) edges))) c.from-v.ensures (c.collect-k.ensures.told es values (h.counted ∙ sym part) (graph_part es r edges vertices (n - 0) (omega (arith, h.counted)) h.graph.graph) h.graph.placed h.value_at) ∙
    ap (λ i. chain_names es i values (take c.args.level (order es r)) v i) part in
    fitted_some es r n values filled c.args.level edges vertices c.args.ordered.now slots h long.slots_there names listed
    (g.W.Way.meaning c.args.way.now) c.in_ok-x.x c.in_ok-x.tries (take (n - 0) slots) c.fill.new.slots (drop (n - 0) slots) (ap (λ j. take j slots) zn) sized c.in_ok-x.ensures long.vertices_there
    (set vertices c.from-v.result (valued c.in_ok-x.x (row vertices c.from-v.result))) (ap (λ u. set vertices u (valued c.in_ok-x.x (row vertices u))) c.from-v.ensures) c.fill.ensures.rows
