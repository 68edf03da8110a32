-- A script that was performed from the beginning, over full lists.
use Rattle.std.proofs.Common.{◌≡◌, ℕ, List, length, take, Option, Some, None, IsSome, MatchOption, sym, refl, ap, subst, ◌∙◌, arith}
use Rattle.std.proofs.Math.Seq.{take-length}
use Rattle.ways.specs.Permutation.{Meaning}
use Rattle.runs.specs.Answers.{Answer}
use Rattle.runs.specs.declared.stage.Stage.{Stage}
use Rattle.runs.specs.declared.stage.Stage.TheVariants.{Open, Sealed}
use Rattle.runs.specs.Runs.{Lent, beginning, answers, continued}
use Rattle.pressing.specs.declared.press.Pressing.{Pressing}
use Rattle.pressing.specs.Memory.{Memory, lent}
use Rattle.pressing.specs.Left.{Left}
use Rattle.scripts.specs.declared.script.Step.{Step}
use Rattle.scripts.specs.Script.{as_calls, NotReplayed, Replayed, Holds}
use Rattle.replaying.specs.Performed.{full, run_answers, run_end, HoldsItsString}

-- lists of full length are lent full
pub full_lent : {N : Type 0} (l : Memory N) → length l.rows ≡ 1024 → length l.tables ≡ 12288 → length l.edges ≡ 1024 → length l.vertices ≡ 2048 →
    length l.heap ≡ 2048 → length l.ordered ≡ 2048 → length l.slots ≡ 1024 → lent l ≡ full
full_lent l a b c d e f g = λ k. record { rows = a k; tables = b k; edges = c k; vertices = d k; heap = e k; ordered = f k; slots = g k }

module _ {N W : Type 0} (spelling : N → List ℕ) (kind : ℕ) (meaning : W → Meaning) (script : List (Step N W)) (p p' : Pressing N) (l l' : Memory N) (s s' : List ℕ) (xs ys : List Answer) where
  fresh : Left spelling beginning p l → Holds spelling kind beginning p l s
  fresh left = record { left = left; string_left = λ e. absurd (let o : ◌≡◌ {A = Stage} Open Sealed = e in cc) }

  -- with a place for each call, it is performed
  pub was_performed : (r : Option (Unit {0})) → length xs ≡ length script →
      MatchOption r (NotReplayed script p l s xs p' l' s' ys) (λ _. Replayed spelling kind meaning script p l s xs p' l' s' ys) → IsSome r
  was_performed None few n = absurd (omega (arith, n.few))
  was_performed (Some u) few d = refl

  -- with a place for each call, each answer is the run's, and the memory holds its string
  pub performed : (r : Option (Unit {0})) → length xs ≡ length script → length ys ≡ length xs → Left spelling beginning p l → lent l ≡ full →
      MatchOption r (NotReplayed script p l s xs p' l' s' ys) (λ _. Replayed spelling kind meaning script p l s xs p' l' s' ys) →
      (ys ≡ run_answers spelling meaning (length s) script) × HoldsItsString spelling kind (run_end spelling meaning (length s) script) s'
  unfolding run_answers run_end
  performed None few long left lengths n = absurd (omega (arith, n.few))
  performed (Some u) few long left lengths d =
      let whole : length script ≡ length ys = sym (long ∙ few) in
      let told = d.told beginning (fresh left) in (
        sym (ap (λ k. take k ys) whole ∙ take-length ys) ∙ told.0 ∙ ap (λ w. answers spelling beginning (as_calls meaning w (length s) script)) lengths,
        subst (λ (w : Lent). HoldsItsString spelling kind (continued spelling beginning (as_calls meaning w (length s) script)) s') lengths (record { begins = told.1.string_left }),
      )
