use Rattle.std.proofs.Common.{ap, ◌∙◌}
use Rattle.pressing.specs.Memory.{lent}
use Rattle.replaying.proofs.Performing.{full_lent, was_performed, performed}
use Rattle.replaying.proofs.session.perform.Goals as goal

pub returns : goal.returns
returns g c =
    let f = c.requires.full in
    let p = performed _ _ _ _ _ _ _ _ _ _ _ _ c.replay.result c.requires.room c.replay.auto.answers (c.new-pressing.ensures _)
    (ap lent c.lend.ensures ∙ full_lent _ f.rows f.tables f.edges f.vertices f.heap f.ordered f.slots)
    c.replay.ensures in
    record { told = p.0; sealed = p.1 }

pub unwrap-requires : goal.unwrap-requires
unwrap-requires g c = was_performed _ _ _ _ _ _ _ _ _ _ _ _ c.replay.result c.requires.room c.replay.ensures
