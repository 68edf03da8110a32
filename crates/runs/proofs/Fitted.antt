-- What a fit answers: unfit exactly if every rotation is blocked, else the first that fits.
use Rattle.std.proofs.Common.{◌≡◌, ℕ, ◌-◌, ◌%◌, ◌<◌, ◌↔◌, List, Some, None, Ok, Err, Option, sym, refl, ap, ◌∙◌, mod-lt, mod-eq_of_lt, arith}
use Rattle.std.proofs.lemmas.Bool.{eq-eqb, both_ways}
use Rattle.ways.specs.Permutation.{Meaning, asked, Permutes}
use Rattle.runs.specs.declared.fault.PressFault.{PressFault}
use Rattle.runs.specs.declared.fault.PressFault.TheVariants.{WrongStage, ShortList, TooManyNames, SpellingEntered, WaySize, NoName, VertexCount, Seed, Clash, Unfit, ShortString}
use Rattle.runs.specs.Answers.{Answer}
use Rattle.runs.specs.declared.answer.Outcome.{Outcome}
use Rattle.runs.specs.declared.answer.Outcome.TheVariants as answered
use Rattle.runs.specs.Faults.{carried}
use Rattle.runs.specs.Fitting.{free}
use Rattle.runs.specs.Runs.{Run, Call, fit, Lent, count, level_offsets, level_slots, fit_found, refusal, with_level, accepted, unless_refused, step, fit_answer, answer_accepted, answer}
use Rattle.runs.specs.Laws.{Refuses, InTurn, EveryRotationBlocked, FirstThatFits}
use Rattle.runs.proofs.Fits.{first_none, free_exactly, blocked_exactly}
use Rattle.runs.proofs.Standing.{fit_passed, found_step, asked_below}

-- only an unfit level is carried
pub carries_level : (f : PressFault) (l : ℕ) → carried f ≡ Some l → f ≡ Unfit l
carries_level WrongStage l e = absurd cc
carries_level ShortList l e = absurd cc
carries_level TooManyNames l e = absurd cc
carries_level SpellingEntered l e = absurd cc
carries_level WaySize l e = absurd cc
carries_level NoName l e = absurd cc
carries_level VertexCount l e = absurd cc
carries_level Seed l e = absurd cc
carries_level Clash l e = absurd cc
carries_level (Unfit k) l e = ap (λ j. Unfit j) (let q : k ≡ l = cc in q)
carries_level ShortString l e = absurd cc

module _ {N : Type 0} (spelling : N → List ℕ) where
  -- an answer that is no refusal is that of an accepted call
  pub was_accepted : (m : Run N) (c : Call N) (x : Outcome) → answer spelling m c ≡ Ok x → (refusal spelling m c ≡ None) × (answer_accepted spelling m c ≡ x)
  was_accepted m c x = go (refusal spelling m c)
    where
      go : (o : Option PressFault) → unless_refused o (Ok (answer_accepted spelling m c)) (λ f. Err f) ≡ Ok x → (o ≡ None) × (answer_accepted spelling m c ≡ x)
      go None e = (refl, cc)
      go (Some f) e = absurd cc

  pub record Answered (m : Run N) (l : Lent) (w : Meaning) (v tries : ℕ) : Type 0 where
    pub accepts : refusal spelling m (fit l w) ≡ None
    pub is_found : fit_found spelling m w ≡ Some (v, tries)
    pub stepped : step spelling m (fit l w) ≡ with_level spelling m (Some (v, tries))

  found_answer : (v t x u : ℕ) → answered.Fitted v t ≡ answered.Fitted x u → (v ≡ x) × (t ≡ u)
  found_answer v t x u e = (cc, cc)

  pub fit_answered : (m : Run N) (l : Lent) (w : Meaning) (v tries : ℕ) → answer spelling m (fit l w) ≡ Ok (answered.Fitted v tries) → Answered m l w v tries
  fit_answered m l w v tries e =
      let p = was_accepted m (fit l w) (answered.Fitted v tries) e in
      let f = fit_passed spelling m l w p.0 in
      let q = found_answer f.value f.tries v tries (sym (ap fit_answer f.is_found) ∙ p.1) in
      let a = q.0 in
      let b = q.1 in
      let found : fit_found spelling m w ≡ Some (v, tries) = f.is_found ∙ (λ i. Some (a i, b i)) in
      record {
        accepts = p.0;
        is_found = found;
        stepped = ap (λ o. unless_refused o (accepted spelling m (fit l w)) (λ x. m)) p.0 ∙ ap (with_level spelling m) found;
      }

  pub fit_is_first : (m : Run N) (l : Lent) (w : Meaning) (v tries : ℕ) → answer spelling m (fit l w) ≡ Ok (answered.Fitted v tries) → FirstThatFits spelling m w v tries
  fit_is_first m l w v tries e =
      let q = found_step spelling m w (v, tries) (fit_answered m l w v tries e).is_found in
      let back : tries - 1 ≡ q.step = omega (arith, q.tries) in
      record {
        some = omega (arith, q.tries);
        most = omega (arith, q.tries, q.upto);
        tried = sym q.rotated ∙ ap (asked w m.level) (sym back);
        fits = (free_exactly m.filled (level_slots spelling m v)).0 q.fits;
        none_before = λ j b. (blocked_exactly m.filled (level_slots spelling m (asked w m.level j))).0 (q.before j (omega arith) (omega arith));
      }

  module _ (m : Run N) (l : Lent) (w : Meaning) (law : Permutes w) (turn : InTurn spelling m l w) where
    abbrev outcome : Option (ℕ × ℕ) → Answer
    outcome None = Err (Unfit m.level)
    outcome (Some (v, tries)) = Ok (answered.Fitted v tries)

    in_turn : (o : Option (ℕ × ℕ)) → fit_found spelling m w ≡ o → answer spelling m (fit l w) ≡ outcome o
    in_turn None e = simp (turn.ordered, turn.long, eq-eqb w.size (count m) turn.sized, e)
    in_turn (Some (v, tries)) e = simp (turn.ordered, turn.long, eq-eqb w.size (count m) turn.sized, e)

    -- each rotation is asked for at some step
    reached : (v : ℕ) → v < count m → (j : ℕ) × (j < count m) × (asked w m.level j ≡ v)
    reached v b =
        let p = law.reached (m.level % 2048) v (mod-lt m.level (let z : 0 < 2048 = omega arith in z)) (omega (arith, turn.sized)) in
        (p.0, omega (arith, p.1, turn.sized), ap (w.rotation (m.level % 2048)) (mod-eq_of_lt p.1) ∙ p.2)

    none_fits : fit_found spelling m w ≡ None → EveryRotationBlocked spelling m
    none_fits e v b =
        let p = reached v b in
        rw (← p.2) ((blocked_exactly m.filled (level_slots spelling m (asked w m.level p.0))).0
        (first_none (count m) (asked w m.level) m.filled (level_offsets spelling m) (count m) 0 e p.0 (omega arith) (omega (arith, p.1))))

    unfit_blocked : (o : Option (ℕ × ℕ)) → fit_found spelling m w ≡ o → outcome o ≡ Err (Unfit m.level) → EveryRotationBlocked spelling m
    unfit_blocked None e h = none_fits e
    unfit_blocked (Some (v, tries)) e h = absurd cc

    blocked_unfit : EveryRotationBlocked spelling m → (o : Option (ℕ × ℕ)) → fit_found spelling m w ≡ o → outcome o ≡ Err (Unfit m.level)
    blocked_unfit h None e = refl
    blocked_unfit h (Some (v, tries)) e =
        let q = found_step spelling m w (v, tries) e in
        let low : v < count m = omega (arith, q.rotated, asked_below w law m.level q.step, turn.sized) in
        absurd (both_ways (free m.filled (level_slots spelling m v)) ((blocked_exactly m.filled (level_slots spelling m v)).1 (h v low)) q.fits)

    pub unfit_exactly : Refuses (answer spelling m (fit l w)) 19 (Some m.level) ↔ EveryRotationBlocked spelling m
    unfit_exactly = (
      λ r. unfit_blocked (fit_found spelling m w) refl
          (sym (in_turn (fit_found spelling m w) refl) ∙ r.refused ∙ ap (λ f. Err f) (carries_level r.fault m.level r.carrying)),
      λ h. record {
        fault = Unfit m.level;
        refused = in_turn (fit_found spelling m w) refl ∙ blocked_unfit h (fit_found spelling m w) refl;
        numbered = refl;
        carrying = refl;
      },
    )
