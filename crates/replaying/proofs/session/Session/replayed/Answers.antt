use Rattle.std.proofs.Common.{◌≡◌, ℕ, length, drop, sym, ap, ◌∙◌}
use Rattle.std.proofs.lemmas.List.{length-replicate, take_at}
use Rattle.replaying.proofs.session.Session.replayed.Goals as goal

pub perform-requires-clause-room : goal.perform-requires-clause-room
perform-requires-clause-room g c =
    ap length c.deref_mut-2.ensures.value ∙ ap length c.in_ok-answers.ensures ∙ length-replicate _ _ ∙ c.len.ensures ∙ sym c.deref.ensures.len

pub returns : goal.returns
returns g c =
    let room : length c.deref_mut.result.now ≡ 26645 = ap length c.deref_mut.ensures.value ∙ ap length c.in_ok-string.ensures ∙ length-replicate {A = ℕ} 26645 165 in
    let told = rw (room, c.deref.ensures.value) at c.perform.ensures.told in
    let sealed = rw (room, c.deref.ensures.value) at c.perform.ensures.sealed in
    let string = c.in_ok-string.string in
    let whole = take_at c.perform.new.string (drop (length c.perform.new.string) string.items) string.len (c.perform.auto.string ∙ c.deref_mut.ensures.len) in
    record {
      told = take_at c.perform.new.answers _ c.in_ok-answers.answers.len (c.perform.auto.answers ∙ c.deref_mut-2.ensures.len) ∙ told;
      sealed = rw whole sealed;
    }
