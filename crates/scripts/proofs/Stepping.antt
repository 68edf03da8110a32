-- One step of a script over whole lists, and steps one after the other. Assumes nothing.
use Rattle.std.proofs.Common.{◌≡◌, ℕ, zero, suc, ◌+◌, ◌-◌, ◌<◌, ◌≤◌, min, Bool, true, false, not, ◌&&◌, eqb, ltb, leb, ◌⊎◌, ◌↔◌, List, [], ◌∷◌, ◌++◌, length, get_or, take, drop, set, is_some, Some, None, Ok, Err, Option, sym, refl, ap, ◌∙◌, subst, inl, inr, arith}
use Rattle.std.specs.Str.{bytes_eq}
use Rattle.std.proofs.lemmas.List.{take-append-le, take-append-drop, length-take, length-append, length-drop, map_more, take_more_set, take_all, get_or-take, take-map, length-map, get_or-map}
use Rattle.std.proofs.lemmas.Bool.{cases_Bool}
use Rattle.refusals.specs.Checks.{unless, first}
use Rattle.ways.specs.Permutation.{Meaning, Permutes}
use Rattle.runs.specs.declared.stage.Stage.{Stage}
use Rattle.runs.specs.declared.stage.Stage.TheVariants.{Open, Mapped, Ordered, Fitted, Sealed}
use Rattle.runs.specs.declared.fault.PressFault.{PressFault}
use Rattle.runs.specs.declared.fault.PressFault.TheVariants.{WrongStage, ShortList, TooManyNames, SpellingEntered, WaySize, NoName, VertexCount, Seed, Clash, Unfit, ShortString}
use Rattle.runs.specs.Answers.{Answer}
use Rattle.runs.specs.declared.answer.Outcome.TheVariants as answered
use Rattle.runs.specs.Lists.{has, repeats}
use Rattle.runs.specs.Runs.{Lent, ample, Run, is, rank, count, spellings, triples, same_triple, fit_found, fit_answer, string_length, led_to, with_level, stage_after, vertex_order, refusal, unless_refused, accepted, step, continued, answer, answer_accepted, pressed, sealed_string}
use Rattle.runs.specs.Runs as run
use Rattle.runs.specs.Laws.{Refuses, InTurn, EveryRotationBlocked, PlateOf}
use Rattle.runs.proofs.Standing.{seal_passed, after_call, at}
use Rattle.runs.proofs.Fitted.{was_accepted, unfit_exactly}
use Rattle.runs.proofs.Sealing.{plate_of}
use Rattle.pressing.specs.declared.press.Pressing.{Pressing}
use Rattle.pressing.specs.Memory.{Memory, lent}
use Rattle.pressing.specs.Left.{IsRun, Held, Left}
use Rattle.pressing.proofs.Steps.{continued_on, run_stands, refused_run}
use Rattle.pressing.proofs.EnterCall.{held_open}
use Rattle.scripts.specs.declared.script.Call.{Call}
use Rattle.scripts.specs.declared.script.Call.TheVariants.{Enter, Map, Order, Fit, Reopen, Seal}
use Rattle.scripts.specs.declared.script.Step.{Step}
use Rattle.scripts.specs.Script.{as_call, lent_of, as_step, as_calls, Performed, before, Holds, StepTaken, Replayed}
use Rattle.scripts.proofs.Performing.{short_gate}
use Rattle.scripts.proofs.Cutting.{held_agree, first_of, put_back, back_same, whole_ample, cut_agrees, back_agrees}

stages_apart : (s t : Stage) → s ≡ t → (rank s ≡ rank t → ⊥) → {X : Type 0} → X
stages_apart s t e ne = absurd (ne (ap rank e))

-- 1. over short lists no call alters what is held

module _ {N W : Type 0} (spelling : N → List ℕ) (meaning : W → Meaning) (m : Run N) (l : Lent) (room : ℕ) (short : ample l ≡ false) (whole : Memory N) (h : Held spelling m whole) where
  unmoved : (c : run.Call N) (f : PressFault) → refusal spelling m c ≡ Some f → Held spelling (step spelling m c) whole
  unmoved c f e = subst (λ n. Held spelling n whole) (sym (refused_run spelling m c f e)) h

  gated : (c : run.Call N) (b : Bool) (os : List (Option PressFault)) → refusal spelling m c ≡ first (unless b WrongStage ∷ unless (ample l) ShortList ∷ os) → Held spelling (step spelling m c) whole
  gated c b os e = let g = short_gate b (ample l) os short in unmoved c g.0 (e ∙ g.1)

  pub short_held : (c : Call N W) → Held spelling (step spelling m (as_call meaning l room c)) whole
  short_held (Enter x v) = gated (run.enter l x v) (is m.stage Open) (unless (ltb (count m) 1024) TooManyNames ∷ unless (not (has bytes_eq (spelling x) (spellings spelling m.names))) SpellingEntered ∷ []) refl
  short_held (Map r seed) =
      gated (run.map_to l r seed) (is m.stage Open)
      (unless (ltb 0 (count m)) NoName ∷ unless (leb 1 r && leb r 1024) VertexCount ∷ unless (leb 1 seed && leb seed 2147483646) Seed ∷ unless (not (repeats same_triple (triples spelling m.names r seed))) Clash ∷ []) refl
  short_held Order = gated (run.order_by l) (is m.stage Mapped) [] refl
  short_held (Fit w) = gated (run.fit l (meaning w)) (is m.stage Ordered) (unless (eqb (meaning w).size (count m)) WaySize ∷ unless (is_some (fit_found spelling m (meaning w))) (Unfit m.level) ∷ []) refl
  short_held Reopen = after_call spelling (λ n. Held spelling n whole) m run.reopen (λ f e. h) (λ e. held_open spelling (led_to Open m) refl whole h.names)
  short_held Seal = gated (run.seal l room) (is m.stage Fitted) (unless (leb (string_length m) room) ShortString ∷ []) refl

-- 2. the stage Sealed is reached by an answered length alone

module _ {N : Type 0} (spelling : N → List ℕ) (m : Run N) where
  fit_no_length : (o : Option (ℕ × ℕ)) (k : ℕ) → fit_answer o ≡ answered.Sealed k → ⊥
  fit_no_length None k e = cc
  fit_no_length (Some (v, t)) k e = cc

  by_level : (o : Option (ℕ × ℕ)) → (with_level spelling m o).stage ≡ Sealed → with_level spelling m o ≡ m
  by_level None e = refl
  by_level (Some (v, t)) e = go (eqb (suc m.level) (length (vertex_order spelling m))) e
    where
      go : (b : Bool) → mathlib.Core.Bool.cond b Fitted Ordered ≡ Sealed → with_level spelling m (Some (v, t)) ≡ m
      go true e = stages_apart Fitted Sealed e (λ q. omega arith)
      go false e = stages_apart Ordered Sealed e (λ q. omega arith)

  by_accepted : (c : run.Call N) → refusal spelling m c ≡ None → ((k : ℕ) → answer spelling m c ≡ Ok (answered.Sealed k) → ⊥) → (accepted spelling m c).stage ≡ Sealed → accepted spelling m c ≡ m
  by_accepted (run.enter l x v) ok ne e = stages_apart Open Sealed e (λ q. omega arith)
  by_accepted (run.map_to l r seed) ok ne e = stages_apart Mapped Sealed e (λ q. omega arith)
  by_accepted (run.order_by l) ok ne e = stages_apart Ordered Sealed e (λ q. omega arith)
  by_accepted (run.fit l w) ok ne e = by_level (fit_found spelling m w) e
  by_accepted run.reopen ok ne e = stages_apart Open Sealed e (λ q. omega arith)
  by_accepted (run.seal l room) ok ne e = absurd (ne (string_length m) (ap (λ o. unless_refused o (Ok (answered.Sealed (string_length m))) (λ f. Err f)) ok))

  pub stays_sealed : (c : run.Call N) → ((k : ℕ) → answer spelling m c ≡ Ok (answered.Sealed k) → ⊥) → (step spelling m c).stage ≡ Sealed → step spelling m c ≡ m
  stays_sealed c ne = after_call spelling (λ n. n.stage ≡ Sealed → n ≡ m) m c (λ f e s. refl) (λ ok s. by_accepted c ok ne s)

  pub record Sealing (c : run.Call N) (k : ℕ) : Type 0 where
    pub lent : Lent
    pub room : ℕ
    pub is_seal : c ≡ run.seal lent room
    pub passed : refusal spelling m c ≡ None
    pub length_is : string_length m ≡ k

  not_length : (c : run.Call N) (k : ℕ) → (answer_accepted spelling m c ≡ answered.Sealed k → ⊥) → answer spelling m c ≡ Ok (answered.Sealed k) → Sealing c k
  not_length c k ne e = absurd (ne (was_accepted spelling m c (answered.Sealed k) e).1)

  pub was_sealing : (c : run.Call N) (k : ℕ) → answer spelling m c ≡ Ok (answered.Sealed k) → Sealing c k
  was_sealing (run.enter l x v) k e = not_length (run.enter l x v) k (λ q. cc) e
  was_sealing (run.map_to l r seed) k e = not_length (run.map_to l r seed) k (λ q. cc) e
  was_sealing (run.order_by l) k e = not_length (run.order_by l) k (λ q. cc) e
  was_sealing (run.fit l w) k e = not_length (run.fit l w) k (fit_no_length (fit_found spelling m w) k) e
  was_sealing run.reopen k e = not_length run.reopen k (λ q. cc) e
  was_sealing (run.seal l room) k e =
      let p = was_accepted spelling m (run.seal l room) (answered.Sealed k) e in
      record { lent = l; room = room; is_seal = refl; passed = p.0; length_is = same (string_length m) k p.1 }
    where
      same : (i j : ℕ) → answered.Sealed i ≡ answered.Sealed j → i ≡ j
      same i j q = cc

a_length : (a : Answer) → ((k : ℕ) × (a ≡ Ok (answered.Sealed k))) ⊎ ((k : ℕ) → a ≡ Ok (answered.Sealed k) → ⊥)
a_length (Ok answered.Entered) = inr (λ k e. cc)
a_length (Ok answered.Mapped) = inr (λ k e. cc)
a_length (Ok (answered.Ordered j)) = inr (λ k e. cc)
a_length (Ok (answered.Fitted v t)) = inr (λ k e. cc)
a_length (Ok answered.Reopened) = inr (λ k e. cc)
a_length (Ok (answered.Sealed j)) = inl (j, refl)
a_length (Err f) = inr (λ k e. cc)

-- 3. one step

module _ {N W : Type 0} (spelling : N → List ℕ) (kind : ℕ) (meaning : W → Meaning) (c : Call N W) (n : Lent) (room : ℕ) (whole : Memory N) (string : List ℕ) {p p' : Pressing N} {a : Answer} {l' : Memory N} {string' : List ℕ}
    (d : Performed spelling kind meaning c p (first_of n whole) (take room string) a p' l' string') where
  abbrev call : run.Call N
  call = as_call meaning (lent (first_of n whole)) (length (take room string)) c

  module _ (m : Run N) (h : Holds spelling kind m p whole string) where
    cut_left : Left spelling m p (first_of n whole)
    cut_left = record {
      run = h.left.run;
      kept = h.left.kept;
      held = λ e. held_agree spelling m p (run_stands spelling m h.left.run) h.left.kept whole (first_of n whole) (cut_agrees n whole e) (h.left.held (whole_ample n whole e));
    }

    pub same_answer : a ≡ answer spelling m call
    same_answer = (d.told m cut_left).0

    next_left : Left spelling (step spelling m call) p' l'
    next_left = (d.told m cut_left).1

    by_short : ample (lent (first_of n whole)) ≡ false → ample (lent (put_back n whole l')) ≡ true → Held spelling (step spelling m call) (put_back n whole l')
    by_short f e =
        let same : put_back n whole l' ≡ whole = ap (put_back n whole) (d.short f) ∙ back_same n whole in
        subst (Held spelling (step spelling m call)) (sym same)
        (short_held spelling meaning m (lent (first_of n whole)) (length (take room string)) f whole (h.left.held (sym (ap (λ l. ample (lent l)) same) ∙ e)) c)

    by_long : ample (lent (first_of n whole)) ≡ true → Held spelling (step spelling m call) (put_back n whole l')
    by_long e =
        let long : ample (lent l') ≡ true = ap ample d.long ∙ e in
        held_agree spelling (step spelling m call) p' (run_stands spelling (step spelling m call) next_left.run) next_left.kept l' (put_back n whole l') (back_agrees n whole l' long) (next_left.held long)

    whole_left : Left spelling (step spelling m call) p' (put_back n whole l')
    whole_left = record {
      run = next_left.run;
      kept = next_left.kept;
      held = λ e. elim (cases_Bool (ample (lent (first_of n whole)))) [ inl t ↦ by_long t | inr f ↦ by_short f e ];
    }

    -- the string memory
    abbrev SealedSo : Run N → Type 0
    SealedSo x = x.stage ≡ Sealed → take (string_length x) (string' ++ drop room string) ≡ sealed_string spelling kind x

    by_length : (k : ℕ) → a ≡ Ok (answered.Sealed k) → SealedSo (step spelling m call)
    by_length k e =
        let s = was_sealing spelling m call k (sym same_answer ∙ e) in
        let passed : refusal spelling m (run.seal s.lent s.room) ≡ None = subst (λ x. refusal spelling m x ≡ None) s.is_seal s.passed in
        let fits : string_length m ≤ s.room = (seal_passed spelling m s.lent s.room passed).1 in
        let next : step spelling m call ≡ led_to Sealed m = ap (step spelling m) s.is_seal ∙ ap (λ o. unless_refused o (led_to Sealed m) (λ f. m)) passed in
        subst SealedSo (sym next) (λ _.
        ap (λ j. take j (string' ++ drop room string)) s.length_is
        ∙ take-append-le k string' (drop room string) (within s fits)
        ∙ d.written.exact m cut_left k e)
      where
        seal_room : (x : Call N W) (l : Lent) (r q : ℕ) (y : Lent) → as_call meaning l r x ≡ run.seal y q → q ≡ r
        seal_room (Enter x v) l r q y e = absurd cc
        seal_room (Map i j) l r q y e = absurd cc
        seal_room Order l r q y e = absurd cc
        seal_room (Fit w) l r q y e = absurd cc
        seal_room Reopen l r q y e = absurd cc
        seal_room Seal l r q y e = cc

        within : {k : ℕ} (s : Sealing spelling m call k) → string_length m ≤ s.room → k ≤ length string'
        within s fits = omega (arith, s.length_is, fits, seal_room c (lent (first_of n whole)) (length (take room string)) s.room s.lent s.is_seal, d.written.long)

    by_other : ((k : ℕ) → a ≡ Ok (answered.Sealed k) → ⊥) → SealedSo (step spelling m call)
    by_other ne e =
        let same : step spelling m call ≡ m = stays_sealed spelling m call (λ k q. ne k (same_answer ∙ q)) e in
        let whole_string : string' ++ drop room string ≡ string = ap (λ (s : List ℕ). s ++ drop room string) (d.written.kept ne) ∙ take-append-drop room string in
        subst (λ x. take (string_length x) (string' ++ drop room string) ≡ sealed_string spelling kind x) (sym same)
        (ap (take (string_length m)) whole_string ∙ h.string_left (sym (ap (λ x. x.stage) same) ∙ e))

    pub one_step : Holds spelling kind (step spelling m call) p' (put_back n whole l') (string' ++ drop room string)
    one_step = record {
      left = whole_left;
      string_left = elim (a_length a) [ inl q ↦ by_length q.0 q.1 | inr ne ↦ by_other ne ];
    }

-- 4. a step lends what it says, of each list a first part

pub lent_part : (k a w : ℕ) → k ≡ min a w → k - 0 ≡ min a w
lent_part k a w e = omega arith

cut_length : {X : Type 0} (k a : ℕ) (xs : List X) → k ≡ min a (length xs) → length (take k xs) ≡ min a (length xs)
cut_length k a xs e = simp length-take (omega arith)

back_length : {X : Type 0} (k a : ℕ) (xs ys : List X) → k ≡ min a (length xs) → length ys ≡ length (take k xs) → length (ys ++ drop k xs) ≡ length xs
back_length k a xs ys e h = length-append ys (drop k xs) ∙ omega (arith, h, length-drop k xs, length-take k xs, e)

module _ {N W : Type 0} (spelling : N → List ℕ) (kind : ℕ) (meaning : W → Meaning) (s : Step N W) (n : Lent) (room : ℕ) (whole : Memory N) (string : List ℕ) {p p' : Pressing N} {a : Answer} {l' : Memory N} {string' : List ℕ}
    (e₁ : n.rows ≡ min s.lent.lists.rows (length whole.rows)) (e₂ : n.tables ≡ min s.lent.lists.tables (length whole.tables)) (e₃ : n.edges ≡ min s.lent.lists.edges (length whole.edges))
    (e₄ : n.vertices ≡ min s.lent.lists.vertices (length whole.vertices)) (e₅ : n.heap ≡ min s.lent.lists.heap (length whole.heap)) (e₆ : n.ordered ≡ min s.lent.lists.ordered (length whole.ordered))
    (e₇ : n.slots ≡ min s.lent.lists.slots (length whole.slots)) (e₈ : room ≡ min s.lent.string (length string))
    (d : Performed spelling kind meaning s.call p (first_of n whole) (take room string) a p' l' string') where
  lent_is : lent (first_of n whole) ≡ lent_of (lent whole) s.lent.lists
  lent_is = λ i. record {
    rows = cut_length n.rows s.lent.lists.rows whole.rows e₁ i;
    tables = cut_length n.tables s.lent.lists.tables whole.tables e₂ i;
    edges = cut_length n.edges s.lent.lists.edges whole.edges e₃ i;
    vertices = cut_length n.vertices s.lent.lists.vertices whole.vertices e₄ i;
    heap = cut_length n.heap s.lent.lists.heap whole.heap e₅ i;
    ordered = cut_length n.ordered s.lent.lists.ordered whole.ordered e₆ i;
    slots = cut_length n.slots s.lent.lists.slots whole.slots e₇ i;
  }

  same_call : as_call meaning (lent (first_of n whole)) (length (take room string)) s.call ≡ as_step meaning (lent whole) (length string) s
  same_call =
      let r = cut_length room s.lent.string string e₈ in
      λ i. as_call meaning (lent_is i) (r i) s.call

  pub step_taken : StepTaken spelling kind meaning s p whole string a p' (put_back n whole l') (string' ++ drop room string)
  step_taken = record {
    told = λ m h. (
      same_answer spelling kind meaning s.call n room whole string d m h ∙ ap (answer spelling m) same_call,
      subst (λ c. Holds spelling kind (step spelling m c) p' (put_back n whole l') (string' ++ drop room string)) same_call (one_step spelling kind meaning s.call n room whole string d m h),
    );
    long = λ i. record {
      rows = back_length n.rows s.lent.lists.rows whole.rows l'.rows e₁ (ap (λ x. x.rows) d.long) i;
      tables = back_length n.tables s.lent.lists.tables whole.tables l'.tables e₂ (ap (λ x. x.tables) d.long) i;
      edges = back_length n.edges s.lent.lists.edges whole.edges l'.edges e₃ (ap (λ x. x.edges) d.long) i;
      vertices = back_length n.vertices s.lent.lists.vertices whole.vertices l'.vertices e₄ (ap (λ x. x.vertices) d.long) i;
      heap = back_length n.heap s.lent.lists.heap whole.heap l'.heap e₅ (ap (λ x. x.heap) d.long) i;
      ordered = back_length n.ordered s.lent.lists.ordered whole.ordered l'.ordered e₆ (ap (λ x. x.ordered) d.long) i;
      slots = back_length n.slots s.lent.lists.slots whole.slots l'.slots e₇ (ap (λ x. x.slots) d.long) i;
    };
    string_long = back_length room s.lent.string string string' e₈ d.written.long;
  }

-- 5. steps one after the other

module _ {N : Type 0} (spelling : N → List ℕ) where
  pub answers_on : (m : Run N) (cs : List (run.Call N)) (c : run.Call N) → run.answers spelling m (cs ++ c ∷ []) ≡ run.answers spelling m cs ++ answer spelling (continued spelling m cs) c ∷ []
  answers_on m [] c = refl
  answers_on m (x ∷ cs) c = ap (λ rest. answer spelling m x ∷ rest) (answers_on (step spelling m x) cs c)

-- i steps were taken: answers and state are those of the run
pub record SoFar {N W : Type 0} (spelling : N → List ℕ) (kind : ℕ) (meaning : W → Meaning) (whole : Lent) (room : ℕ) (script : List (Step N W)) (m : Run N) (i : ℕ) (p : Pressing N) (l : Memory N) (string : List ℕ) (answers : List Answer) : Type 0 where
  pub recorded : take i answers ≡ run.answers spelling m (as_calls meaning whole room (take i script))
  pub state : Holds spelling kind (continued spelling m (as_calls meaning whole room (take i script))) p l string

module _ {N W : Type 0} (spelling : N → List ℕ) (kind : ℕ) (meaning : W → Meaning) (whole : Lent) (room : ℕ) (script : List (Step N W)) where
  pub none_yet : (m : Run N) (p : Pressing N) (l : Memory N) (string : List ℕ) (answers : List Answer) → Holds spelling kind m p l string → SoFar spelling kind meaning whole room script m 0 p l string answers
  none_yet m p l string answers h = record { recorded = refl; state = h }

  pub one_more : (m : Run N) (i : ℕ) (s : Step N W) {p p' : Pressing N} {l l' : Memory N} {string string' : List ℕ} {a : Answer} (answers : List Answer) → i < length script → i < length answers → s ≡ get_or script i s →
      lent l ≡ whole → length string ≡ room → StepTaken spelling kind meaning s p l string a p' l' string' →
      SoFar spelling kind meaning whole room script m i p l string answers → SoFar spelling kind meaning whole room script m (i + 1) p' l' string' (set answers i a)
  one_more m i s {p} {p'} {l} {l'} {string} {string'} {a} answers at place is long string_long d h =
      let cs = as_calls meaning whole room (take i script) in
      let call : as_step meaning (lent l) (length string) s ≡ as_step meaning whole room s = λ j. as_step meaning (long j) (string_long j) s in
      let more : as_calls meaning whole room (take (i + 1) script) ≡ cs ++ as_step meaning whole room s ∷ [] = map_more (as_step meaning whole room) script i s at ∙ ap (λ x. cs ++ as_step meaning whole room x ∷ []) (sym is) in
      let t = d.told (continued spelling m cs) h.state in
      record {
        recorded =
            take_more_set answers i a place
            ∙ (λ j. h.recorded j ++ (t.0 ∙ ap (answer spelling (continued spelling m cs)) call) j ∷ [])
            ∙ sym (answers_on spelling m cs (as_step meaning whole room s))
            ∙ ap (run.answers spelling m) (sym more);
        state =
            subst (λ x. Holds spelling kind x p' l' string') (sym (ap (continued spelling m) more ∙ continued_on spelling m cs (as_step meaning whole room s)))
            (subst (λ x. Holds spelling kind (step spelling (continued spelling m cs) x) p' l' string') call t.1);
      }

  pub all_steps : (m : Run N) (i : ℕ) {p : Pressing N} {l : Memory N} {string : List ℕ} {answers : List Answer} → length script ≡ i → SoFar spelling kind meaning whole room script m i p l string answers →
      (take (length script) answers ≡ run.answers spelling m (as_calls meaning whole room script)) × Holds spelling kind (continued spelling m (as_calls meaning whole room script)) p l string
  all_steps m i {p} {l} {string} {answers} e h =
      let same : take i script ≡ script = take_all i script (omega arith) in (
        ap (λ j. take j answers) e ∙ h.recorded ∙ ap (λ (xs : List (Step N W)). run.answers spelling m (as_calls meaning whole room xs)) same,
        subst (λ (xs : List (Step N W)). Holds spelling kind (continued spelling m (as_calls meaning whole room xs)) p l string) same h.state,
      )

-- 6. the laws over the run of a script

module _ {N : Type 0} (spelling : N → List ℕ) where
  answer_at : (m : Run N) (cs : List (run.Call N)) (i : ℕ) (c : run.Call N) (a : Answer) → i < length cs → get_or (run.answers spelling m cs) i a ≡ answer spelling (continued spelling m (take i cs)) (get_or cs i c)
  answer_at m [] i c a h = absurd (omega arith)
  answer_at m (x ∷ cs) zero c a h = refl
  answer_at m (x ∷ cs) (suc i) c a h = answer_at (step spelling m x) cs i c a (omega arith)

  pub sealed_plate : (m : Run N) → IsRun spelling m → m.stage ≡ Sealed → PlateOf spelling m (pressed spelling m)
  sealed_plate m k e = let h = run_stands spelling m k in plate_of spelling m h (at spelling m Sealed h e)

module _ {N W : Type 0} (spelling : N → List ℕ) (meaning : W → Meaning) (laws : (w : W) → Permutes (meaning w)) (whole : Lent) (room : ℕ) (script : List (Step N W)) (m : Run N) (answers : List Answer)
    (e : take (length script) answers ≡ run.answers spelling m (as_calls meaning whole room script)) where
  pub unfit_in_turn : (i : ℕ) (s : Step N W) (w : W) → i < length script → get_or script i s ≡ s → s.call ≡ Fit w →
      InTurn spelling (before meaning whole room script spelling m i) (lent_of whole s.lent.lists) (meaning w) →
      Refuses (get_or answers i (Ok answered.Entered)) 19 (Some (before meaning whole room script spelling m i).level) ↔ EveryRotationBlocked spelling (before meaning whole room script spelling m i)
  unfit_in_turn i s w at is call turn =
      let cs = as_calls meaning whole room script in
      let c : get_or cs i (as_step meaning whole room s) ≡ run.fit (lent_of whole s.lent.lists) (meaning w) =
      get_or-map (as_step meaning whole room) script i s (as_step meaning whole room s) at ∙ ap (as_step meaning whole room) is ∙ ap (as_call meaning (lent_of whole s.lent.lists) (min s.lent.string room)) call in
      let same : get_or answers i (Ok answered.Entered) ≡ answer spelling (before meaning whole room script spelling m i) (run.fit (lent_of whole s.lent.lists) (meaning w)) =
      sym (get_or-take (length script) answers i (Ok answered.Entered) at)
      ∙ ap (λ (xs : List Answer). get_or xs i (Ok answered.Entered)) e
      ∙ answer_at spelling m cs i (as_step meaning whole room s) (Ok answered.Entered) (omega (arith, length-map script (as_step meaning whole room)))
      ∙ (λ j. answer spelling (continued spelling m (take-map (as_step meaning whole room) i script j)) (c j)) in
      subst (λ a. Refuses a 19 (Some (before meaning whole room script spelling m i).level) ↔ EveryRotationBlocked spelling (before meaning whole room script spelling m i)) (sym same)
      (unfit_exactly spelling (before meaning whole room script spelling m i) (lent_of whole s.lent.lists) (meaning w) (laws w) turn)

-- 7. a whole script

module _ {N W : Type 0} (spelling : N → List ℕ) (kind : ℕ) (meaning : W → Meaning) (laws : (w : W) → Permutes (meaning w)) (script : List (Step N W)) (p p' : Pressing N) (l l' : Memory N) (string string' : List ℕ) (answers answers' : List Answer) where
  pub replayed : (i : ℕ) → length script ≤ length answers → length script ≡ i → drop (length script) answers' ≡ drop (length script) answers →
      ((m : Run N) → Holds spelling kind m p l string → SoFar spelling kind meaning (lent l) (length string) script m i p' l' string' answers') →
      Replayed spelling kind meaning script p l string answers p' l' string' answers'
  replayed i enough is past inv = record {
    room = enough;
    told = λ m h. all_steps spelling kind meaning (lent l) (length string) script m i is (inv m h);
    answers_past = past;
    unfit_exactly = λ m h. unfit_in_turn spelling meaning laws (lent l) (length string) script m answers' (all_steps spelling kind meaning (lent l) (length string) script m i is (inv m h)).0;
    sealed_soundly = λ m h e.
        let z = (all_steps spelling kind meaning (lent l) (length string) script m i is (inv m h)).1 in
        (sealed_plate spelling (continued spelling m (as_calls meaning (lent l) (length string) script)) z.left.run e, z.string_left e);
  }
