use Rattle.std.proofs.Common.{sym, ◌∙◌}
use Rattle.sealing.proofs.Laying.{all_written}
use Rattle.sealing.proofs.write.write_plate.Goals as goal

pub returns : goal.returns
returns g c =
    all_written g.N.Kind.spelling g.met.N.Kind.spelling_to_16 g.N.Kind.number c.args.sizes.n c.args.sizes.r c.args.seed.value c.args.rows.now c.args.vertices.now c.args.slots.now
    c.from-n.result c.from-r.result (c.from-n.ensures ∙ c.n.ensures) (c.from-r.ensures ∙ c.r.ensures) (sym c.if-not-fits.ensures)
    c.write_front.ensures c.write_values.ensures c.write_records.ensures c.string_length.ensures
