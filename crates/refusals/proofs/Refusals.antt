-- The first broken check refuses.
use Rattle.std.proofs.Common.{◌≡◌, ℕ, zero, suc, ◌+◌, ◌<◌, ◌≤◌, List, [], ◌∷◌, get_or, Some, None, Option, sym, refl, ap, ◌∙◌, inl, inr, arith}
use Rattle.std.proofs.lemmas.Bool.{cases_eq}
use Rattle.refusals.specs.Checks.{or, first, each}
use Rattle.refusals.specs.Laws.{RefusedBy, Lowest}

module _ {F : Type 0} where
  shifted : (os : List (Option F)) (w : ℕ) → ((j : ℕ) → j < w → get_or os j None ≡ None) → (j : ℕ) → j < suc w → get_or (None ∷ os) j None ≡ None
  shifted os w h zero l = refl
  shifted os w h (suc j) l = h j (omega arith)

  pub first_refuses : (os : List (Option F)) (f : F) → first os ≡ Some f → RefusedBy os f
  first_refuses [] f e = absurd cc
  first_refuses (Some g ∷ os) f e = record { which = 0; within = omega arith; broken = e; earlier = λ j h. absurd (omega arith) }
  first_refuses (None ∷ os) f e =
      let q = first_refuses os f e in
      record { which = suc q.which; within = omega (arith, q.within); broken = q.broken; earlier = shifted os q.which q.earlier }

  pub all_met : (os : List (Option F)) → first os ≡ None → (j : ℕ) → get_or os j None ≡ None
  all_met [] e j = refl
  all_met (Some g ∷ os) e j = absurd cc
  all_met (None ∷ os) e zero = refl
  all_met (None ∷ os) e (suc j) = all_met os e j

  -- the lowest of the checks numbered i, i + 1, .. (k of them)
  record From (check : ℕ → Option F) (i k : ℕ) (f : F) : Type 0 where
    pub which : ℕ
    pub low : i ≤ which
    pub within : which < i + k
    pub broken : check which ≡ Some f
    pub lower : (j : ℕ) → i ≤ j → j < which → check j ≡ None

  here_or_on : (check : ℕ → Option F) (i k : ℕ) (f : F) (o : Option F) → check i ≡ o → or o (each check (suc i) k) ≡ Some f →
      (each check (suc i) k ≡ Some f → From check (suc i) k f) → From check i (suc k) f
  here_or_on check i k f (Some g) q e on = record { which = i; low = omega arith; within = omega arith; broken = q ∙ e; lower = λ j a b. absurd (omega arith) }
  here_or_on check i k f None q e on =
      let r = on e in
      record {
        which = r.which;
        low = omega (arith, r.low);
        within = omega (arith, r.within);
        broken = r.broken;
        lower = λ j a b. elim (cases_eq i j) [ inl s ↦ ap check (sym s) ∙ q | inr s ↦ r.lower j (omega arith) b ];
      }

  from : (check : ℕ → Option F) (i k : ℕ) (f : F) → each check i k ≡ Some f → From check i k f
  from check i zero f e = absurd cc
  from check i (suc k) f e = here_or_on check i k f (check i) refl e (from check (suc i) k f)

  pub lowest_refuses : (check : ℕ → Option F) (k : ℕ) (f : F) → each check 0 k ≡ Some f → Lowest check k f
  lowest_refuses check k f e =
      let r = from check 0 k f e in
      record { which = r.which; within = omega (arith, r.within); broken = r.broken; lower = λ j h. r.lower j (omega arith) h }
