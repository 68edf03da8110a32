-- Values of fitted vertices: they stay until the next accepted order, and each was answered by a fit.
use Rattle.std.proofs.Common.{◌≡◌, ℕ, ◌*◌, ◌<◌, ◌≤◌, List, [], ◌∷◌, ◌++◌, length, get_or, Some, None, Ok, Err, Option, sym, refl, ap, ◌∙◌, subst, inl, inr, append_assoc, arith}
use Rattle.std.specs.List.{AllByRecursion}
use Rattle.std.proofs.lemmas.Bool.{cases_eq}
use Rattle.std.proofs.lemmas.List.{get_or-set_same, get_or-set_other, append-nil}
use Rattle.std.proofs.ByRecursion.{All-get_or, All-push}
use Rattle.ways.specs.Permutation.{Meaning, Permutes}
use Rattle.runs.specs.declared.stage.Stage.{Stage}
use Rattle.runs.specs.declared.stage.Stage.TheVariants.{Open, Mapped, Ordered, Sealed}
use Rattle.runs.specs.declared.fault.PressFault.{PressFault}
use Rattle.runs.specs.declared.answer.Outcome.TheVariants as answered
use Rattle.runs.specs.Runs.{Run, Call, enter, map_to, order_by, fit, reopen, seal, Lent, rank, graph, vertex_order, vertex, refusal, with_level, accepted, unless_refused, step, continued, reckoned, answer_accepted, fit_answer, answer}
use Rattle.runs.specs.Laws.{Sound, NoOrder, WasFitted}
use Rattle.runs.proofs.Ordering.{order_lined}
use Rattle.runs.proofs.Graph.{apart_at}
use Rattle.runs.proofs.Standing.{Stands, AtStage, at, Fittable, fit_passed, seal_passed, after_call, stands, stands_step}
use Rattle.runs.proofs.Fitted.{fit_answered}

stages_differ : (s t : Stage) → (rank s ≡ rank t → ⊥) → s ≡ t → ⊥
stages_differ s t h e = h (ap rank e)

module _ {N : Type 0} (spelling : N → List ℕ) where
  abbrev value_at : Run N → ℕ → ℕ
  value_at m u = get_or m.values u 0

  answer_when : (m : Run N) (c : Call N) (o : Option PressFault) → refusal spelling m c ≡ o → answer spelling m c ≡ unless_refused o (Ok (answer_accepted spelling m c)) (λ f. Err f)
  answer_when m c o e = ap (λ p. unless_refused p (Ok (answer_accepted spelling m c)) (λ f. Err f)) e

  -- fitting the next level gives its vertex the value, and no other
  module _ (m : Run N) (g : AtStage spelling Ordered m) (x t : ℕ) where
    new_value : value_at (with_level spelling m (Some (x, t))) (vertex spelling m) ≡ x
    new_value = get_or-set_same m.values (vertex spelling m) x 0
        (omega (arith, g.1.size, All-get_or (λ v. v < 2 * m.r) (vertex_order spelling m) m.level 0 g.2 (order_lined (graph spelling m) m.r).low))

    old_value : (i : ℕ) → i < m.level → value_at (with_level spelling m (Some (x, t))) (get_or (vertex_order spelling m) i 0) ≡ value_at m (get_or (vertex_order spelling m) i 0)
    old_value i l = get_or-set_other m.values (vertex spelling m) (get_or (vertex_order spelling m) i 0) x 0
        (λ e. apart_at (2 * m.r) (vertex_order spelling m) (order_lined (graph spelling m) m.r) i m.level l g.2 (sym e))

  -- 1. a value stays

  -- the vertex at the level i of the order vs has the value v, and as long as levels are fitted they are later ones
  record Keeps (vs : List ℕ) (i v : ℕ) (m : Run N) : Type 0 where
    has_value : value_at m (get_or vs i 0) ≡ v
    going : m.stage ≡ Ordered → (vertex_order spelling m ≡ vs) × (i < m.level)

  module _ (vs : List ℕ) (i v : ℕ) where
    keeps_level : (m : Run N) → Stands spelling m → m.stage ≡ Ordered → (x t : ℕ) → Keeps vs i v m → Keeps vs i v (with_level spelling m (Some (x, t)))
    keeps_level m h st x t k =
        let p = k.going st in
        record {
          has_value = ap (λ us. value_at (with_level spelling m (Some (x, t))) (get_or us i 0)) (sym p.0) ∙ old_value m (at spelling m Ordered h st) x t i p.1 ∙ ap (λ us. value_at m (get_or us i 0)) p.0 ∙ k.has_value;
          going = λ e. (p.0, omega (arith, p.1));
        }

    keeps_accepted : (m : Run N) (c : Call N) → Stands spelling m → ((k : ℕ) → answer spelling m c ≡ Ok (answered.Ordered k) → ⊥) → Keeps vs i v m → refusal spelling m c ≡ None → Keeps vs i v (accepted spelling m c)
    keeps_accepted m (enter l x s) h new k ok = record { has_value = k.has_value; going = λ e. absurd (stages_differ Open Ordered (λ q. omega arith) e) }
    keeps_accepted m (map_to l r seed) h new k ok = record { has_value = k.has_value; going = λ e. absurd (stages_differ Mapped Ordered (λ q. omega arith) e) }
    keeps_accepted m (order_by l) h new k ok = absurd (new (length (vertex_order spelling m)) (answer_when m (order_by l) None ok))
    keeps_accepted m (fit l w) h new k ok =
        let p = fit_passed spelling m l w ok in
        subst (λ o. Keeps vs i v (with_level spelling m o)) (sym p.is_found) (keeps_level m h p.stage p.value p.tries k)
    keeps_accepted m reopen h new k ok = record { has_value = k.has_value; going = λ e. absurd (stages_differ Open Ordered (λ q. omega arith) e) }
    keeps_accepted m (seal l room) h new k ok = record { has_value = k.has_value; going = λ e. absurd (stages_differ Sealed Ordered (λ q. omega arith) e) }

    keeps_on : (m : Run N) (calls : List (Call N)) → AllByRecursion Sound calls → Stands spelling m → NoOrder spelling m calls → Keeps vs i v m → Keeps vs i v (continued spelling m calls)
    keeps_on m [] s h new k = k
    keeps_on m (c ∷ cs) s h new k =
        keeps_on (step spelling m c) cs s.1 (stands_step spelling m c s.0 h) new.1
        (after_call spelling (Keeps vs i v) m c (λ f e. k) (keeps_accepted m c h new.0 k))

  pub value_stays : (m : Run N) → Stands spelling m → (l : Lent) (w : Meaning) (v tries : ℕ) (after : List (Call N)) → Permutes w → AllByRecursion Sound after →
      answer spelling m (fit l w) ≡ Ok (answered.Fitted v tries) → NoOrder spelling (step spelling m (fit l w)) after →
      get_or (continued spelling (step spelling m (fit l w)) after).values (vertex spelling m) 0 ≡ v
  value_stays m h l w v tries after law sound e new =
      let a = fit_answered spelling m l w v tries e in
      let g = at spelling m Ordered h (fit_passed spelling m l w a.accepts).stage in
      let start : Keeps (vertex_order spelling m) m.level v (with_level spelling m (Some (v, tries))) = record { has_value = new_value m g v tries; going = λ q. (refl, omega arith) } in
      (keeps_on (vertex_order spelling m) m.level v (step spelling m (fit l w)) after sound (stands_step spelling m (fit l w) law h) new
      (subst (Keeps (vertex_order spelling m) m.level v) (sym a.stepped) start)).has_value

  -- 2. each value was answered by a fit

  continued_append : (m : Run N) (cs ds : List (Call N)) → continued spelling m (cs ++ ds) ≡ continued spelling (continued spelling m cs) ds
  continued_append m [] ds = refl
  continued_append m (c ∷ cs) ds = continued_append (step spelling m c) cs ds

  no_order_push : (m : Run N) (cs : List (Call N)) (c : Call N) → NoOrder spelling m cs → ((k : ℕ) → answer spelling (continued spelling m cs) c ≡ Ok (answered.Ordered k) → ⊥) → NoOrder spelling m (cs ++ c ∷ [])
  no_order_push m [] c h new = (new, tt)
  no_order_push m (d ∷ cs) c h new = (h.0, no_order_push (step spelling m d) cs c h.1 new)

  abbrev AllFitted : List (Call N) → Run N → Type 0
  AllFitted calls m = rank Ordered ≤ rank m.stage → (i : ℕ) → i < m.level → WasFitted spelling calls m i

  module _ (calls : List (Call N)) (c : Call N) where
    abbrev now : Run N
    now = reckoned spelling calls

    -- a fit before c was one before the calls with c too
    later : (m : Run N) (i : ℕ) → ((k : ℕ) → answer spelling now c ≡ Ok (answered.Ordered k) → ⊥) → vertex_order spelling now ≡ vertex_order spelling m →
        value_at now (get_or (vertex_order spelling now) i 0) ≡ value_at m (get_or (vertex_order spelling m) i 0) → WasFitted spelling calls now i → WasFitted spelling (calls ++ c ∷ []) m i
    later m i new same_vs same_value h = record {
      before = h.before;
      lent = h.lent;
      way = h.way;
      after = h.after ++ c ∷ [];
      split = ap (λ cs. cs ++ c ∷ []) h.split ∙ append_assoc h.before (fit h.lent h.way ∷ h.after) (c ∷ []);
      tries = h.tries;
      answers = h.answers ∙ ap (λ v. Ok (answered.Fitted v h.tries)) same_value;
      at_level = h.at_level;
      same_order = h.same_order ∙ same_vs;
      since = no_order_push (step spelling (reckoned spelling h.before) (fit h.lent h.way)) h.after c h.since
          (λ k e. new k (ap (λ m. answer spelling m c) (ap (reckoned spelling) h.split ∙ continued_append _ h.before (fit h.lent h.way ∷ h.after)) ∙ e));
    }

  module _ (calls : List (Call N)) (h : Stands spelling (reckoned spelling calls)) (before : AllFitted calls (reckoned spelling calls)) where
    fitted_level : (l : Lent) (w : Meaning) → refusal spelling (now calls reopen) (fit l w) ≡ None → (p : Fittable spelling (now calls reopen) w) →
        AllFitted (calls ++ fit l w ∷ []) (with_level spelling (now calls reopen) (Some (p.value, p.tries)))
    fitted_level l w ok p high i b = elim (cases_eq i m.level) [
      | inl e ↦ record {
        before = calls;
        lent = l;
        way = w;
        after = [];
        split = refl;
        tries = p.tries;
        answers = is_answer ∙ ap (λ v. Ok (answered.Fitted v p.tries)) (sym (ap (λ j. value_at (with_level spelling m (Some (p.value, p.tries))) (get_or (vertex_order spelling m) j 0)) e ∙ new_value m g p.value p.tries));
        at_level = sym e;
        same_order = refl;
        since = tt;
      }
      | inr e ↦
          let k : i < m.level = omega arith in
          later calls (fit l w) (with_level spelling m (Some (p.value, p.tries))) i
          (λ k q. let z : ◌≡◌ {A = ℕ} 0 1 = cc (sym is_answer ∙ q) in omega arith) refl (sym (old_value m g p.value p.tries i k)) (before (omega (arith, ap rank p.stage)) i k)
    ]
      where
        m : Run N
        m = reckoned spelling calls

        g : AtStage spelling Ordered m
        g = at spelling m Ordered h p.stage

        is_answer : answer spelling m (fit l w) ≡ Ok (answered.Fitted p.value p.tries)
        is_answer = answer_when m (fit l w) None ok ∙ ap (λ o. Ok (fit_answer o)) p.is_found

    fitted_accepted : (c : Call N) → refusal spelling (reckoned spelling calls) c ≡ None → AllFitted (calls ++ c ∷ []) (accepted spelling (reckoned spelling calls) c)
    fitted_accepted (enter l x s) ok high i b = absurd (omega arith)
    fitted_accepted (map_to l r seed) ok high i b = absurd (omega arith)
    fitted_accepted (order_by l) ok high i b = absurd (omega arith)
    fitted_accepted (fit l w) ok high i b =
        let p = fit_passed spelling (reckoned spelling calls) l w ok in
        subst (λ o. AllFitted (calls ++ fit l w ∷ []) (with_level spelling (reckoned spelling calls) o)) (sym p.is_found) (fitted_level l w ok p) high i b
    fitted_accepted reopen ok high i b = absurd (omega arith)
    fitted_accepted (seal l room) ok high i b =
        let e = answer_when (reckoned spelling calls) (seal l room) None ok in
        later calls (seal l room) (accepted spelling (reckoned spelling calls) (seal l room)) i
        (λ k q. let z : ◌≡◌ {A = ℕ} 0 1 = cc (sym e ∙ q) in omega arith) refl refl (before (omega (arith, ap rank (seal_passed spelling (reckoned spelling calls) l room ok).0)) i b)

    fitted_step : (c : Call N) → AllFitted (calls ++ c ∷ []) (step spelling (reckoned spelling calls) c)
    fitted_step c = after_call spelling (AllFitted (calls ++ c ∷ [])) (reckoned spelling calls) c
        (λ f e high i b. later calls c (reckoned spelling calls) i (λ k q. let z : ◌≡◌ {A = ℕ} 0 1 = cc (sym (answer_when (reckoned spelling calls) c (Some f) e) ∙ q) in omega arith) refl refl (before high i b))
        (fitted_accepted c)

  fitted_on : (done calls : List (Call N)) → AllByRecursion Sound done → AllByRecursion Sound calls → AllFitted done (reckoned spelling done) → AllFitted (done ++ calls) (reckoned spelling (done ++ calls))
  fitted_on done [] a b h = subst (λ cs. AllFitted cs (reckoned spelling cs)) (sym (append-nil done)) h
  fitted_on done (c ∷ cs) a b h =
      subst (λ ds. AllFitted ds (reckoned spelling ds)) (append_assoc done (c ∷ []) cs)
      (fitted_on (done ++ c ∷ []) cs (All-push Sound done c a b.0) b.1
      (subst (AllFitted (done ++ c ∷ [])) (sym (continued_append _ done (c ∷ []))) (fitted_step done (stands spelling done a) h c)))

  pub values_were_fitted : (calls : List (Call N)) → AllByRecursion Sound calls → AllFitted calls (reckoned spelling calls)
  values_were_fitted calls s = fitted_on [] calls tt s (λ high i b. absurd (omega arith))
