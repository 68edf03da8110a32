-- The lines of a session that are answered, and with what.
use Rattle.std.specs.Prelude.{ℕ, cond, List, [], ◌∷◌, length, take, Option, Some, None, Result, Ok, Err, nat_le}
use Rattle.runs.specs.Answers.{Answer}
use Rattle.runs.specs.declared.answer.Outcome.TheVariants as answer
use Rattle.typing.specs.declared.typed.Unlisted.{Unlisted}
use Rattle.typing.specs.declared.typed.Unlisted.TheVariants as unlisted
use Rattle.replaying.specs.declared.said.Said.{Said}
use Rattle.replaying.specs.declared.said.Said.TheVariants as said
use Rattle.replaying.specs.declared.uncalled.Uncalled.{Uncalled}
use Rattle.replaying.specs.declared.uncalled.Uncalled.TheVariants as uncalled

-- a line that is answered: by the next call, or with why it makes none
abbrev pub Line : Type 0
Line = Result (Unit {0}) Uncalled

-- words that give no name are refused, or unread
abbrev pub of_unlisted : Unlisted → Uncalled
of_unlisted (unlisted.Refused f) = uncalled.Name f
of_unlisted unlisted.Unread = uncalled.Unread

-- what its call answers, or why it makes none
abbrev pub Reply : Type 0
Reply = Result Answer Uncalled

-- a line is answered by its call, or with why it makes none
abbrev pub reply_to : Line → Answer → Reply
reply_to (Ok _) a = Ok a
reply_to (Err u) a = Err u

-- the line that is answered, or none
abbrev pub lines_of : {N : Type 0} → Result (Said N) Uncalled → List Line
lines_of (Ok said.Blank) = []
lines_of (Ok (said.Lend l)) = []
lines_of (Ok (said.Call c)) = Ok tt ∷ []
lines_of (Err u) = Err u ∷ []

-- the length of the string that the last seal wrote, after one more answer
abbrev pub sealed_after : Option ℕ → Answer → Option ℕ
sealed_after o (Ok (answer.Sealed k)) = Some k
sealed_after o (Ok answer.Entered) = o
sealed_after o (Ok answer.Mapped) = o
sealed_after o (Ok (answer.Ordered k)) = o
sealed_after o (Ok (answer.Fitted v tries)) = o
sealed_after o (Ok answer.Reopened) = o
sealed_after o (Err f) = o

-- so many bytes of the memory, if it has them
abbrev pub front : Option ℕ → List ℕ → Option (List ℕ)
front None memory = None
front (Some k) memory = cond (nat_le k (length memory)) (Some (take k memory)) None
