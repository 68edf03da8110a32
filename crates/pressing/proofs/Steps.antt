-- What a call promises, from the checks that it made. Assumes nothing.
use Rattle.std.proofs.Common.{◌≡◌, ℕ, Bool, true, false, List, [], ◌∷◌, ◌++◌, Some, None, Ok, Err, Option, sym, refl, ap, ◌∙◌, subst, arith}
use Rattle.std.proofs.ByRecursion.{All-push}
use Rattle.std.proofs.lemmas.Bool.{both_ways}
use Rattle.refusals.specs.Checks.{unless, or, first, with_value}
use Rattle.runs.specs.declared.stage.Stage.{Stage}
use Rattle.runs.specs.declared.fault.PressFault.{PressFault}
use Rattle.runs.specs.declared.fault.PressFault.TheVariants.{WrongStage, ShortList, Clash}
use Rattle.runs.specs.declared.answer.Outcome.{Outcome}
use Rattle.runs.specs.Runs.{Lent, ample, Call, Run, refusal, unless_refused, accepted, step, continued, beginning, answer_accepted, answer}
use Rattle.runs.specs.Laws.{Sound}
use Rattle.runs.proofs.Standing.{Stands, stands}
use Rattle.pressing.specs.declared.press.Pressing.{Pressing}
use Rattle.pressing.specs.declared.stage.Event.{Event}
use Rattle.pressing.specs.Memory.{Memory, lent}
use Rattle.pressing.specs.Stages.{belongs, leads, next_stage, begun}
use Rattle.pressing.specs.Left.{IsRun, Kept, Held, Left, Done}

-- 1. checks one after the other

pub stops : {F : Type 0} (b : Bool) (f : F) (os : List (Option F)) → b ≡ false → first (unless b f ∷ os) ≡ Some f
stops {F} b f os e = ap (λ c. or (unless c f) (first os)) e

pub goes : {F : Type 0} (b : Bool) (f : F) (os : List (Option F)) → b ≡ true → first (unless b f ∷ os) ≡ first os
goes {F} b f os e = ap (λ c. or (unless c f) (first os)) e

pub or_assoc : {F : Type 0} (a b c : Option F) → or a (or b c) ≡ or (or a b) c
or_assoc None b c = refl
or_assoc (Some f) b c = refl

pub or_none : {F : Type 0} (a : Option F) → or a None ≡ a
or_none None = refl
or_none (Some f) = refl

-- all checks but the last, and the last
pub first_behind : {F : Type 0} (os : List (Option F)) (o : Option F) → first (os ++ o ∷ []) ≡ or (first os) (first (o ∷ []))
first_behind [] o = refl
first_behind (a ∷ os) o = ap (or a) (first_behind os o) ∙ or_assoc a (first os) (first (o ∷ []))

some_same : {F : Type 0} {f g : F} → Some f ≡ Some g → f ≡ g
some_same e = cc

none_some : {F X : Type 0} {f : F} → None ≡ Some f → X
none_some e = absurd cc

-- 2. stages

pub record Passed (e : Event) (s t : Stage) : Type 0 where
  pub belonged : belongs e s ≡ true
  pub led : t ≡ leads e

by_belongs : (b : Bool) (t s : Stage) → with_value (unless b WrongStage) t ≡ Ok s → (b ≡ true) × (s ≡ t)
by_belongs true t s h = (refl, cc)
by_belongs false t s h = absurd cc

pub stage_passed : (e : Event) (s t : Stage) → next_stage e s ≡ Ok t → Passed e s t
stage_passed e s t h = let q = by_belongs (belongs e s) (leads e) t h in record { belonged = q.0; led = q.1 }

-- with the lengths of the lists
pub record Begun (e : Event) (s t : Stage) (l : Lent) : Type 0 where
  pub belonged : belongs e s ≡ true
  pub long : ample l ≡ true
  pub led : t ≡ leads e

by_both : (b a : Bool) (t s : Stage) → with_value (first (unless b WrongStage ∷ unless a ShortList ∷ [])) t ≡ Ok s → (b ≡ true) × (a ≡ true) × (s ≡ t)
by_both true true t s h = (refl, refl, cc)
by_both true false t s h = absurd cc
by_both false a t s h = absurd cc

pub passed_by : (e : Event) (s : Stage) (l : Lent) (t : Stage) → begun e s l ≡ Ok t → Begun e s t l
passed_by e s l t h = let q = by_both (belongs e s) (ample l) (leads e) t h in record { belonged = q.0; long = q.1; led = q.2 }

-- what these two refuse is refused by all checks that begin with them, and not for a clash
by_one : (b a : Bool) (os : List (Option PressFault)) (t : Stage) (f : PressFault) → with_value (first (unless b WrongStage ∷ unless a ShortList ∷ [])) t ≡ Err f →
    (first (unless b WrongStage ∷ unless a ShortList ∷ os) ≡ Some f) × (f ≡ Clash → ⊥)
by_one true true os t f h = absurd cc
by_one true false os t f h = let q : ShortList ≡ f = cc in (ap (λ g. Some g) q, λ c. cc)
by_one false a os t f h = let q : WrongStage ≡ f = cc in (ap (λ g. Some g) q, λ c. cc)

pub barred_by : (e : Event) (s : Stage) (l : Lent) (os : List (Option PressFault)) (f : PressFault) → begun e s l ≡ Err f →
    (first (unless (belongs e s) WrongStage ∷ unless (ample l) ShortList ∷ os) ≡ Some f) × (f ≡ Clash → ⊥)
barred_by e s l os f h = by_one (belongs e s) (ample l) os (leads e) f h

-- 3. runs

module _ {N : Type 0} (spelling : N → List ℕ) where
  pub continued_on : (m : Run N) (cs : List (Call N)) (c : Call N) → continued spelling m (cs ++ c ∷ []) ≡ step spelling (continued spelling m cs) c
  continued_on m [] c = refl
  continued_on m (x ∷ cs) c = continued_on (step spelling m x) cs c

  pub run_on : (m : Run N) (c : Call N) → Sound c → IsRun spelling m → IsRun spelling (step spelling m c)
  run_on m c s k = record {
    calls = k.calls ++ c ∷ [];
    sound = All-push Sound k.calls c k.sound s;
    comes_to = ap (λ n. step spelling n c) k.comes_to ∙ sym (continued_on beginning k.calls c);
  }

  pub run_stands : (m : Run N) → IsRun spelling m → Stands spelling m
  run_stands m k = subst (Stands spelling) (sym k.comes_to) (stands spelling k.calls k.sound)

  refused_answer : (m : Run N) (c : Call N) (f : PressFault) → refusal spelling m c ≡ Some f → answer spelling m c ≡ Err f
  refused_answer m c f e = ap (λ o. unless_refused o (Ok (answer_accepted spelling m c)) (λ g. Err g)) e

  pub refused_run : (m : Run N) (c : Call N) (f : PressFault) → refusal spelling m c ≡ Some f → step spelling m c ≡ m
  refused_run m c f e = ap (λ o. unless_refused o (accepted spelling m c) (λ g. m)) e

  accepted_answer : (m : Run N) (c : Call N) → refusal spelling m c ≡ None → answer spelling m c ≡ Ok (answer_accepted spelling m c)
  accepted_answer m c e = ap (λ o. unless_refused o (Ok (answer_accepted spelling m c)) (λ g. Err g)) e

  accepted_run : (m : Run N) (c : Call N) → refusal spelling m c ≡ None → step spelling m c ≡ accepted spelling m c
  accepted_run m c e = ap (λ o. unless_refused o (accepted spelling m c) (λ g. m)) e

  -- 4. calls: the gate, and what is left of the run's checks behind it

  module _ {T : Type 0} (call : Call N) (ok : T → Outcome) (gate late : Option PressFault) (p : Pressing N) (l : Memory N)
      (tail : Run N → Option PressFault) (split : (m : Run N) → Kept spelling m p → refusal spelling m call ≡ or gate (tail m)) where
    pub by_gate : (f : PressFault) → gate ≡ Some f → Done spelling call ok gate late p l (Err f) p l
    by_gate f e = record {
      told = λ m k.
          let q : refusal spelling m call ≡ Some f = split m k.kept ∙ ap (λ o. or o (tail m)) e in
          (sym (refused_answer m call f q), subst (λ n. Left spelling n p l) (sym (refused_run m call f q)) k);
      gated = record { refuses = λ g h. ap (λ x. Err x) (some_same (sym e ∙ h)); else_late = λ h. none_some (sym h ∙ e) };
      stays = λ _. refl;
      long = refl;
    }

    -- what a call that came past the gate promises besides
    past : gate ≡ None → (m : Run N) → Kept spelling m p → refusal spelling m call ≡ tail m
    past e m k = split m k ∙ ap (λ o. or o (tail m)) e

    pub by_lists : (f : PressFault) (l' : Memory N) → gate ≡ None → late ≡ Some f → lent l' ≡ lent l →
        ((m : Run N) → Left spelling m p l → (tail m ≡ Some f) × (ample (lent l) ≡ true → Held spelling m l')) →
        Done spelling call ok gate late p l (Err f) p l'
    by_lists f l' e at long t = record {
      told = λ m k.
          let q : refusal spelling m call ≡ Some f = past e m k.kept ∙ (t m k).0 in
          let left : Left spelling m p l' = record { run = k.run; kept = k.kept; held = λ a. (t m k).1 (sym (ap ample long) ∙ a) } in
          (sym (refused_answer m call f q), subst (λ n. Left spelling n p l') (sym (refused_run m call f q)) left);
      gated = record { refuses = λ g h. none_some (sym e ∙ h); else_late = λ h g w. at ∙ ap (λ x. Some x) (let z : f ≡ g = cc in z) };
      stays = λ _. refl;
      long = long;
    }

    pub by_acceptance : (x : T) (p' : Pressing N) (l' : Memory N) → gate ≡ None → lent l' ≡ lent l → Sound call →
        ((m : Run N) → Left spelling m p l → (tail m ≡ None) × (ok x ≡ answer_accepted spelling m call) × Kept spelling (accepted spelling m call) p' × (ample (lent l) ≡ true → Held spelling (accepted spelling m call) l')) →
        Done spelling call ok gate late p l (Ok x) p' l'
    by_acceptance x p' l' e long s t = record {
      told = λ m k.
          let q : refusal spelling m call ≡ None = past e m k.kept ∙ (t m k).0 in
          let b = accepted_run m call q in (
            ap (λ y. Ok y) (t m k).1 ∙ sym (accepted_answer m call q),
            record {
              run = run_on m call s k.run;
              kept = subst (λ n. Kept spelling n p') (sym b) (t m k).2;
              held = λ a. subst (λ n. Held spelling n l') (sym b) ((t m k).3 (sym (ap ample long) ∙ a));
            },
          );
      gated = record { refuses = λ g h. none_some (sym e ∙ h); else_late = λ h g w. absurd cc };
      stays = λ h. absurd (both_ways false refl h);
      long = long;
    }
