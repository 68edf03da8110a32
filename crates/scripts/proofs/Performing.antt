-- One call of a script, from what the call itself promises. Assumes nothing.
use Rattle.std.proofs.Common.{◌≡◌, ℕ, Bool, true, false, ◌&&◌, eqb, ltb, leb, List, [], ◌∷◌, length, is_err, Some, Ok, Err, Option, Result, sym, refl, ap, ◌∙◌, subst, arith, MatchResult, IsOkAnd}
use Rattle.refusals.specs.Checks.{unless, first}
use Rattle.ways.specs.Permutation.{Meaning}
use Rattle.runs.specs.declared.fault.PressFault.{PressFault}
use Rattle.runs.specs.declared.fault.PressFault.TheVariants.{WrongStage, ShortList, TooManyNames, WaySize, NoName, VertexCount, Seed, Clash}
use Rattle.runs.specs.Answers.{Answer}
use Rattle.runs.specs.declared.answer.Outcome.{Outcome}
use Rattle.runs.specs.declared.answer.Outcome.TheVariants as answered
use Rattle.runs.specs.Runs.{ample}
use Rattle.pressing.specs.declared.press.Pressing.{Pressing}
use Rattle.pressing.specs.declared.answer.Fit.{Fit as FitAnswer}
use Rattle.pressing.specs.declared.stage.Event.TheVariants as event
use Rattle.scripts.specs.declared.script.Call.{Call}
use Rattle.scripts.specs.declared.script.Call.TheVariants.{Enter, Map, Order, Fit, Reopen, Seal}
use Rattle.pressing.specs.Memory.{Memory, lent}
use Rattle.pressing.specs.Stages.{belongs}
use Rattle.pressing.specs.Left.{as_answer, Done}
use Rattle.pressing.specs.Calls.{fitted, EnterDone, MapDone, OrderDone, FitDone, ReopenDone, SealDone}
use Rattle.scripts.specs.Script.{as_call, StringAfter, Performed}

-- over short lists the first two checks refuse, and not for a clash
pub short_gate : (b a : Bool) (os : List (Option PressFault)) → a ≡ false → (f : PressFault) × (first (unless b WrongStage ∷ unless a ShortList ∷ os) ≡ Some f) × (f ≡ Clash → ⊥)
short_gate true true os e = absurd cc
short_gate true false os e = (ShortList, refl, λ h. cc)
short_gate false a os e = (WrongStage, refl, λ h. cc)

at_err : {T : Type 0} {A : Type 0} (P : T → Type 0) (r : Result T PressFault) (f : PressFault) → r ≡ Err f → MatchResult r P (λ _. A) → A
at_err {T} {A} P r f e h = subst (λ (r : Result T PressFault). MatchResult r P (λ _. A)) e h

-- a result that was mapped is the answer of its call
pub mapped_answer : {T : Type 0} (ok : T → Outcome) (post : T → Outcome → Type 0) (r : Result T PressFault) (a : Answer) → ((x : T) (y : Outcome) → post x y → y ≡ ok x) → MatchResult r (λ x. IsOkAnd a (post x)) (λ f. a ≡ Err f) → a ≡ as_answer ok r
mapped_answer ok post (Ok x) (Ok y) is h = ap (λ z. Ok z) (is x y h)
mapped_answer ok post (Ok x) (Err f) is h = absurd h
mapped_answer ok post (Err f) a is h = h

-- an answer of another call is no length
no_length : {T : Type 0} (ok : T → Outcome) → ((x : T) (k : ℕ) → ok x ≡ answered.Sealed k → ⊥) → (r : Result T PressFault) (a : Answer) → a ≡ as_answer ok r → (k : ℕ) → a ≡ Ok (answered.Sealed k) → ⊥
no_length ok ne (Ok x) a e k h = ne x k cc
no_length ok ne (Err f) a e k h = cc

-- a length is answered exactly by an accepted seal
to_ok : (o : Result ℕ PressFault) (a : Answer) (k : ℕ) → a ≡ as_answer (λ k. answered.Sealed k) o → a ≡ Ok (answered.Sealed k) → o ≡ Ok k
to_ok (Ok j) a k e h = ap (λ i. Ok i) (let z : j ≡ k = cc in z)
to_ok (Err f) a k e h = absurd cc

to_err : (o : Result ℕ PressFault) (a : Answer) → a ≡ as_answer (λ k. answered.Sealed k) o → ((k : ℕ) → a ≡ Ok (answered.Sealed k) → ⊥) → is_err o ≡ true
to_err (Ok j) a e ne = absurd (ne j e)
to_err (Err f) a e ne = refl

-- where no string is lent
stringless : {N : Type 0} (spelling : N → List ℕ) (kind : ℕ) (p : Pressing N) (l : Memory N) (string : List ℕ) (a : Answer) → ((k : ℕ) → a ≡ Ok (answered.Sealed k) → ⊥) → StringAfter spelling kind p l a string string
stringless spelling kind p l string a ne = record { exact = λ m z k e. absurd (ne k e); behind = λ k e. refl; kept = λ _. refl; long = refl }

module _ {N W : Type 0} (spelling : N → List ℕ) (kind : ℕ) (meaning : W → Meaning) where
  performed : {T : Type 0} {ok : T → Outcome} {gate late : Option PressFault} {r : Result T PressFault} {p p' : Pressing N} {l l' : Memory N} {string string' : List ℕ} (c : Call N W) (a : Answer) →
      Done spelling (as_call meaning (lent l) (length string) c) ok gate late p l r p' l' → a ≡ as_answer ok r → (ample (lent l) ≡ false → l' ≡ l) → StringAfter spelling kind p l a string string' →
      Performed spelling kind meaning c p l string a p' l' string'
  performed c a d e s w = record {
    told = λ m z. (e ∙ (d.told m z).0, (d.told m z).1);
    short = s;
    long = d.long;
    written = w;
  }

  -- by the result of a call that lends no string
  by_result : {T : Type 0} {ok : T → Outcome} {gate late : Option PressFault} {r : Result T PressFault} {p p' : Pressing N} {l l' : Memory N} {string : List ℕ} (c : Call N W) (a : Answer) →
      Done spelling (as_call meaning (lent l) (length string) c) ok gate late p l r p' l' → a ≡ as_answer ok r → (ample (lent l) ≡ false → l' ≡ l) → ((x : T) (k : ℕ) → ok x ≡ answered.Sealed k → ⊥) →
      Performed spelling kind meaning c p l string a p' l' string
  by_result {T} {ok} {gate} {late} {r} {p} {p'} {l} {l'} {string} c a d e s ne = performed c a d e s (stringless spelling kind p l string a (no_length ok ne r a e))

  pub entering : {r : Result (Unit {0}) PressFault} {x : N} {v : ℕ} {p p' : Pressing N} {l l' : Memory N} {string : List ℕ} (c : Call N W) (a : Answer) → c ≡ Enter x v → EnterDone spelling x v p l r p' l' → a ≡ as_answer (λ _. answered.Entered) r →
      Performed spelling kind meaning c p l string a p' l' string
  entering {r} {x} {v} {p} {p'} {l} {l'} {string} c a is d e =
      subst (λ c. Performed spelling kind meaning c p l string a p' l' string) (sym is) (by_result (Enter x v) a d.done e
      (λ s.
      let g = short_gate (belongs event.Enter p.stage) (ample (lent l)) (unless (ltb p.count 1024) TooManyNames ∷ []) s in
      at_err _ r g.0 (d.done.gated.refuses g.0 g.1) d.lists)
      (λ _ k h. cc))

  pub mapping : {o : Result (Unit {0}) PressFault} {r seed : ℕ} {p p' : Pressing N} {l l' : Memory N} {string : List ℕ} (c : Call N W) (a : Answer) → c ≡ Map r seed → MapDone spelling r seed p l o p' l' → a ≡ as_answer (λ _. answered.Mapped) o →
      Performed spelling kind meaning c p l string a p' l' string
  mapping {o} {r} {seed} {p} {p'} {l} {l'} {string} c a is d e =
      subst (λ c. Performed spelling kind meaning c p l string a p' l' string) (sym is) (by_result (Map r seed) a d.done e
      (λ s.
      let g = short_gate (belongs event.Map p.stage) (ample (lent l)) (unless (ltb 0 p.count) NoName ∷ unless (leb 1 r && leb r 1024) VertexCount ∷ unless (leb 1 seed && leb seed 2147483646) Seed ∷ []) s in
      d.kept g.0 (d.done.gated.refuses g.0 g.1) g.2)
      (λ _ k h. cc))

  pub ordering : {o : Result ℕ PressFault} {p p' : Pressing N} {l l' : Memory N} {string : List ℕ} (c : Call N W) (a : Answer) → c ≡ Order → OrderDone spelling p l o p' l' → a ≡ as_answer (λ k. answered.Ordered k) o →
      Performed spelling kind meaning c p l string a p' l' string
  ordering {o} {p} {p'} {l} {l'} {string} c a is d e =
      subst (λ c. Performed spelling kind meaning c p l string a p' l' string) (sym is) (by_result Order a d.done e
      (λ s. let g = short_gate (belongs event.Order p.stage) (ample (lent l)) [] s in at_err _ o g.0 (d.done.gated.refuses g.0 g.1) d.lists)
      (λ _ k h. cc))

  pub fitting : {o : Result FitAnswer PressFault} {w : W} {p p' : Pressing N} {l l' : Memory N} {string : List ℕ} (c : Call N W) (a : Answer) → c ≡ Fit w → FitDone spelling (meaning w) p l o p' l' → a ≡ as_answer fitted o →
      Performed spelling kind meaning c p l string a p' l' string
  fitting {o} {w} {p} {p'} {l} {l'} {string} c a is d e =
      subst (λ c. Performed spelling kind meaning c p l string a p' l' string) (sym is) (by_result (Fit w) a d.done e
      (λ s.
      let g = short_gate (belongs (event.Fit false) p.stage) (ample (lent l)) (unless (eqb (meaning w).size p.count) WaySize ∷ []) s in
      at_err _ o g.0 (d.done.gated.refuses g.0 g.1) d.lists)
      (λ _ k h. cc))

  pub reopening : {r : Result (Unit {0}) PressFault} {p p' : Pressing N} {l : Memory N} {string : List ℕ} (c : Call N W) (a : Answer) → c ≡ Reopen → ReopenDone spelling p r p' → a ≡ as_answer (λ _. answered.Reopened) r →
      Performed spelling kind meaning c p l string a p' l string
  reopening {r} {p} {p'} {l} {string} c a is d e =
      subst (λ c. Performed spelling kind meaning c p l string a p' l string) (sym is) (by_result Reopen a (d l) e (λ _. refl) (λ _ k h. cc))

  pub sealing : {o : Result ℕ PressFault} {p p' : Pressing N} {l l' : Memory N} {string string' : List ℕ} (c : Call N W) (a : Answer) → c ≡ Seal → SealDone spelling kind p l string o p' l' string' → a ≡ as_answer (λ k. answered.Sealed k) o →
      Performed spelling kind meaning c p l string a p' l' string'
  sealing {o} {p} {p'} {l} {l'} {string} {string'} c a is d e =
      subst (λ c. Performed spelling kind meaning c p l string a p' l' string') (sym is) (performed Seal a d.done e (λ _. d.lists) (record {
        exact = λ m z k h. d.exact m z k (to_ok o a k e h);
        behind = λ k h. d.behind k (to_ok o a k e h);
        kept = λ ne. d.kept (to_err o a e ne);
        long = d.string_long;
      }))
