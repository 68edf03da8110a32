use Rattle.typing.proofs.Lines.{adds_write, ended_later}
use Rattle.listing.proofs.entries.unlisted.Goals as goal

pub returns-in-Refused : goal.returns-in-Refused
returns-in-Refused g c = adds_write _ _ _ _ c.add_line.ensures.bytes (simp ended_later)

pub returns-in-Unread : goal.returns-in-Unread
returns-in-Unread g c = adds_write _ _ _ _ c.add_line-in-Unread.ensures.bytes (simp ended_later)
