use Rattle.std.proofs.Common.{◌≡◌, ◌-◌, ◌*◌, length, take, drop, sym, ap, ◌∙◌, subst, arith}
use Rattle.graph.specs.Chains.{Graph}
use Rattle.graph.specs.Mapping.{row_triples, map_fits}
use Rattle.graph.proofs.Built.{past_edge}
use Rattle.graph.proofs.Mapped.{fitted, taken_at, turn}
use Rattle.graph.proofs.build.map_names.Goals as goal

pub attach_edge-requires : goal.attach_edge-requires
attach_edge-requires g c =
    let l = c.loop-i in
    let e = c.from-r.ensures ∙ c.r.ensures in
    let fit = fitted c.args.count c.from-r.result (length c.args.rows.now) (length c.args.tables.now) (length c.args.edges.now) (length c.args.vertices.now) (sym c.if-not-fits.ensures) in
    let at = taken_at c.args.rows.now (c.args.count - 0) l.i c.row-item.result c.loop-i-test.true c.row-item.is in
    let w = turn g.N.Kind.spelling g.met.N.Kind.spelling_from_1 g.met.N.Kind.spelling_to_16 c.args.tables.now c.args.sizes.n c.args.sizes.r c.args.rows.now l.i c.row-item.result c.in_ok-triple.triple fit.tables_there (at.1, at.2) c.in_ok-triple.ensures c.args.sizes.r_from_1 l.edges l.vertices l.invariant.0 in
    record {
      places = (omega (arith, at.0, fit.edges_there), omega (arith, at.0, fit.few), omega (arith, w.halves.low, w.halves.high), omega (arith, w.halves.below, fit.vertices_there));
      degrees = (omega (arith, at.0, w.degree_first, fit.few), omega (arith, at.0, w.degree_second, fit.few));
    }

pub loop-i-preserved : goal.loop-i-preserved
loop-i-preserved g c =
    let l = c.loop-i in
    let e = c.from-r.ensures ∙ c.r.ensures in
    let fit = fitted c.args.count c.from-r.result (length c.args.rows.now) (length c.args.tables.now) (length c.args.edges.now) (length c.args.vertices.now) (sym c.if-not-fits.ensures) in
    let at = taken_at c.args.rows.now (c.args.count - 0) l.i c.row-item.result c.loop-i-test.true c.row-item.is in
    let w = turn g.N.Kind.spelling g.met.N.Kind.spelling_from_1 g.met.N.Kind.spelling_to_16 c.args.tables.now c.args.sizes.n c.args.sizes.r c.args.rows.now l.i c.row-item.result c.in_ok-triple.triple fit.tables_there (at.1, at.2) c.in_ok-triple.ensures c.args.sizes.r_from_1 l.edges l.vertices l.invariant.0 in
    let a = c.attach_edge.ensures in (
      w.graph (omega (arith, fit.vertices_there)) (omega (arith, at.0, fit.edges_there)) _ _ a.edge a.leads,
      past_edge c.args.count l.i l.edges _ _ a.edge (omega (arith, at.0)) ∙ l.invariant.1,
      w.past _ a.leads ∙ l.invariant.2,
    )

pub returns : goal.returns
returns g c =
    let l = c.loop-i in
    let e = c.from-r.ensures ∙ c.r.ensures in
    let ei : l.i ≡ c.args.count = omega arith in
    record {
      long = ap (λ r. map_fits c.args.count r (length c.args.rows.now) (length c.args.tables.now) (length c.args.edges.now) (length c.args.vertices.now)) (sym e) ∙ sym c.if-not-fits.ensures;
      graph = subst (λ i. Graph (row_triples g.N.Kind.spelling c.args.tables.now c.args.sizes.n c.args.sizes.r (take i c.args.rows.now)) c.args.sizes.r l.edges l.vertices) ei l.invariant.0;
      edges_past = l.invariant.1;
      vertices_past = l.invariant.2 ∙ subst (λ r. drop (2 * r) c.clear.new.vertices ≡ drop (2 * r) c.args.vertices.now) e c.clear.ensures.rest;
    }
