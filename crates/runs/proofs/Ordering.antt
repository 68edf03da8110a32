-- What the order of the vertices is like: each once, all below 2r, and every vertex of an edge among them.
use Rattle.std.proofs.Common.{◌≡◌, ℕ, zero, suc, ◌+◌, ◌*◌, ◌<◌, Bool, true, false, cond, not, ◌&&◌, eqb, ltb, ◌⊎◌, List, [], ◌∷◌, ◌++◌, length, Some, None, Option, sym, refl, ap, ◌∙◌, subst, ap₂, inl, inr, add-zero, zero-add, arith}
use Rattle.std.specs.List.{AllByRecursion}
use Rattle.std.proofs.lemmas.Bool.{ne_eqb, cases_Bool, cases_eq, and_parts, ltb-true, ltb-false, not-true, not_from_false, both_ways}
use Rattle.std.proofs.lemmas.List.{length_push}
use Rattle.std.proofs.ByRecursion.{All-push}
use Rattle.std.specs.Option.{option_or}
use Rattle.hashing.specs.Triples.{Triple}
use Rattle.runs.specs.Lists.{among}
use Rattle.runs.specs.Order.{degree, joined, better, greatest, following, grown, order, Best, waits, waits_joined, Next}
use Rattle.runs.proofs.Times.{one_le, one_false, times, Apart, times_append, times_not_among, among_times, each_once}

some_same : (a b : ℕ) → Some a ≡ Some b → a ≡ b
some_same a b e = cc

some_none : (a : ℕ) → ◌≡◌ {A = Option ℕ} (Some a) None → ⊥
some_none a e = cc

module _ (weight : ℕ → ℕ) (ok : ℕ → Bool) where
  -- the best of the numbers below m, or none of weight above 0 passes
  abbrev pub Upto : ℕ → Option ℕ → Type 0
  Upto m None = (u : ℕ) → u < m → ok u ≡ true → weight u ≡ 0
  Upto m (Some b) = Best weight ok m b

  upto_none : (v : ℕ) → Upto v None → (a b : Bool) → ok v ≡ a → ltb 0 (weight v) ≡ b → Upto (suc v) (cond (a && b) (Some v) None)
  upto_none v h true true p q = record {
    passes = p;
    below = omega arith;
    above_zero = ltb-true 0 (weight v) q;
    greatest_weight = λ u l g. elim (cases_eq u v) [ inl e ↦ omega (arith, ap weight e) | inr e ↦ omega (arith, h u (omega arith) g) ];
    lowest = λ u l g w. elim (cases_eq u v) [ inl e ↦ omega arith | inr e ↦ absurd (omega (arith, h u (omega arith) g, ltb-true 0 (weight v) q)) ];
  }
  upto_none v h true false p q = λ u l g. elim (cases_eq u v) [ inl e ↦ omega (arith, ap weight e, ltb-false 0 (weight v) q) | inr e ↦ h u (omega arith) g ]
  upto_none v h false b p q = λ u l g. elim (cases_eq u v) [ inl e ↦ absurd (both_ways (ok v) p (ap ok (sym e) ∙ g)) | inr e ↦ h u (omega arith) g ]

  upto_some : (v c : ℕ) → Best weight ok v c → (a b : Bool) → ok v ≡ a → ltb (weight c) (weight v) ≡ b → Upto (suc v) (cond (a && b) (Some v) (Some c))
  upto_some v c h true true p q = record {
    passes = p;
    below = omega arith;
    above_zero = omega (arith, ltb-true (weight c) (weight v) q);
    greatest_weight = λ u l g. elim (cases_eq u v) [ inl e ↦ omega (arith, ap weight e) | inr e ↦ omega (arith, h.greatest_weight u (omega arith) g, ltb-true (weight c) (weight v) q) ];
    lowest = λ u l g w. elim (cases_eq u v) [ inl e ↦ omega arith | inr e ↦ absurd (omega (arith, h.greatest_weight u (omega arith) g, ltb-true (weight c) (weight v) q)) ];
  }
  upto_some v c h true false p q = record {
    passes = h.passes;
    below = omega (arith, h.below);
    above_zero = h.above_zero;
    greatest_weight = λ u l g. elim (cases_eq u v) [ inl e ↦ omega (arith, ap weight e, ltb-false (weight c) (weight v) q) | inr e ↦ h.greatest_weight u (omega arith) g ];
    lowest = λ u l g w. elim (cases_eq u v) [ inl e ↦ omega (arith, h.below) | inr e ↦ h.lowest u (omega arith) g w ];
  }
  upto_some v c h false b p q = record {
    passes = h.passes;
    below = omega (arith, h.below);
    above_zero = h.above_zero;
    greatest_weight = λ u l g. elim (cases_eq u v) [ inl e ↦ absurd (both_ways (ok v) p (ap ok (sym e) ∙ g)) | inr e ↦ h.greatest_weight u (omega arith) g ];
    lowest = λ u l g w. elim (cases_eq u v) [ inl e ↦ absurd (both_ways (ok v) p (ap ok (sym e) ∙ g)) | inr e ↦ h.lowest u (omega arith) g w ];
  }

  upto_step : (v : ℕ) (best : Option ℕ) → Upto v best → Upto (suc v) (cond (ok v && better weight best v) (Some v) best)
  upto_step v None h = upto_none v h (ok v) (ltb 0 (weight v)) refl refl
  upto_step v (Some c) h = upto_some v c h (ok v) (ltb (weight c) (weight v)) refl refl

  upto_on : (k v : ℕ) (best : Option ℕ) → Upto v best → Upto (v + k) (greatest weight ok k v best)
  upto_on zero v best h = rw add-zero h
  upto_on (suc k) v best h =
      let e : suc v + k ≡ v + suc k = omega arith in
      subst (λ m. Upto m (greatest weight ok (suc k) v best)) e (upto_on k (suc v) (cond (ok v && better weight best v) (Some v) best) (upto_step v best h))

  pub upto_all : (m : ℕ) → Upto m (greatest weight ok m 0 None)
  upto_all m = rw zero-add at (upto_on m 0 None (λ u l. absurd (omega arith)))

  pub best_found : (m v : ℕ) → greatest weight ok m 0 None ≡ Some v → Best weight ok m v
  best_found m v e = subst (Upto m) e (upto_all m)

  pub none_found : (m : ℕ) → greatest weight ok m 0 None ≡ None → (u : ℕ) → u < m → ok u ≡ true → weight u ≡ 0
  none_found m e = subst (Upto m) e (upto_all m)

  -- the other way round: there is one best at most
  pub found_best : (m v : ℕ) → Best weight ok m v → greatest weight ok m 0 None ≡ Some v
  found_best m v h = go (greatest weight ok m 0 None) refl
    where
      go : (o : Option ℕ) → greatest weight ok m 0 None ≡ o → o ≡ Some v
      go None e = absurd (omega (arith, none_found m e v h.below h.passes, h.above_zero))
      go (Some u) e =
          let b = best_found m u e in
          let w : weight u ≡ weight v = omega (arith, h.greatest_weight u b.below b.passes, b.greatest_weight v h.below h.passes) in
          ap (λ x. Some x) (let q : u ≡ v = omega (arith, h.lowest u b.below b.passes w, b.lowest v h.below h.passes (sym w)) in q)

  pub found_none : (m : ℕ) → ((u : ℕ) → u < m → ok u ≡ true → weight u ≡ 0) → greatest weight ok m 0 None ≡ None
  found_none m h = go (greatest weight ok m 0 None) refl
    where
      go : (o : Option ℕ) → greatest weight ok m 0 None ≡ o → o ≡ None
      go None e = refl
      go (Some u) e = let b = best_found m u e in absurd (omega (arith, h u b.below b.passes, b.above_zero))

-- vertices below m, none twice
pub record Lined (m : ℕ) (vs : List ℕ) : Type 0 where
  pub low : AllByRecursion (λ v. v < m) vs
  pub apart : Apart vs

pub apart_push : (vs : List ℕ) (v : ℕ) → Apart vs → among v vs ≡ false → Apart (vs ++ v ∷ [])
apart_push vs v h n s = elim (cases_eq s v) [
  | inl e ↦ omega (arith, times_append s vs (v ∷ []), one_le (eqb s v), times_not_among v vs n, ap (λ u. times u vs) e)
  | inr e ↦ omega (arith, times_append s vs (v ∷ []), one_false (eqb s v) (ne_eqb s v e), h s)
]

pub lined_push : (m : ℕ) (vs : List ℕ) (v : ℕ) → Lined m vs → among v vs ≡ false → v < m → Lined m (vs ++ v ∷ [])
lined_push m vs v h n l = record { low = All-push (λ u. u < m) vs v h.low l; apart = apart_push vs v h.apart n }

-- vertices below m taken as `next` says, as long as one of weight above 0 is left
module _ (m : ℕ) (weight : ℕ → ℕ) (next : List ℕ → Option ℕ)
    (some : (vs : List ℕ) (v : ℕ) → next vs ≡ Some v → (among v vs ≡ false) × (v < m))
    (none : (vs : List ℕ) → next vs ≡ None → (u : ℕ) → u < m → among u vs ≡ false → weight u ≡ 0) where
  pub grown_lined : (k : ℕ) (vs : List ℕ) (o : Option ℕ) → next vs ≡ o → Lined m vs → Lined m (grown next k vs o)
  grown_lined zero vs o e h = h
  grown_lined (suc k) vs None e h = h
  grown_lined (suc k) vs (Some v) e h =
      let p = some vs v e in
      grown_lined k (vs ++ v ∷ []) (next (vs ++ v ∷ [])) refl (lined_push m vs v h p.0 p.1)

  pub grown_all : (k : ℕ) (vs : List ℕ) (o : Option ℕ) → next vs ≡ o → Lined m vs → length vs + k ≡ m →
      (u : ℕ) → u < m → 0 < weight u → among u (grown next k vs o) ≡ true
  grown_all zero vs o e h f u l d = among_times u vs (omega (arith, each_once m vs (omega arith) h.low h.apart u l))
  grown_all (suc k) vs None e h f u l d = elim (cases_Bool (among u vs)) [
    | inl t ↦ t
    | inr t ↦ absurd (omega (arith, none vs e u l t))
  ]
  grown_all (suc k) vs (Some v) e h f u l d =
      let p = some vs v e in
      grown_all k (vs ++ v ∷ []) (next (vs ++ v ∷ [])) refl (lined_push m vs v h p.0 p.1) (omega (arith, length_push vs v)) u l d

module _ (es : List Triple) (r : ℕ) where
  either_some : (a b : Option ℕ) (v : ℕ) → option_or a b ≡ Some v → (a ≡ Some v) ⊎ ((a ≡ None) × (b ≡ Some v))
  either_some None b v h = inr (refl, h)
  either_some (Some u) b v h = inl h

  either_none : (a b : Option ℕ) → option_or a b ≡ None → b ≡ None
  either_none None b h = h
  either_none (Some u) b h = absurd (some_none u h)

  abbrev near : List ℕ → Option ℕ
  near vs = greatest (degree es) (waits_joined es vs) (2 * r) 0 None

  abbrev far : List ℕ → Option ℕ
  far vs = greatest (degree es) (waits vs) (2 * r) 0 None

  pub next_from : (vs : List ℕ) (v : ℕ) → following es r vs ≡ Some v → Next es r vs v
  next_from vs v h = elim (either_some (near vs) (far vs) v h) [
    | inl e ↦ inl (best_found (degree es) (waits_joined es vs) (2 * r) v e)
    | inr e ↦ inr (none_found (degree es) (waits_joined es vs) (2 * r) e.0, best_found (degree es) (waits vs) (2 * r) v e.1)
  ]

  pub following_from : (vs : List ℕ) (v : ℕ) → Next es r vs v → following es r vs ≡ Some v
  following_from vs v (inl b) = ap (λ o. option_or o (far vs)) (found_best (degree es) (waits_joined es vs) (2 * r) v b)
  following_from vs v (inr p) =
      ap₂ option_or (found_none (degree es) (waits_joined es vs) (2 * r) p.0) (found_best (degree es) (waits vs) (2 * r) v p.1)

  pub next_waits : (vs : List ℕ) (v : ℕ) → Next es r vs v → (among v vs ≡ false) × (v < 2 * r)
  next_waits vs v (inl b) = (not-true (among v vs) (and_parts (not (among v vs)) (joined es vs v) b.passes).0, b.below)
  next_waits vs v (inr p) = (not-true (among v vs) p.1.passes, p.1.below)

  following_some : (vs : List ℕ) (v : ℕ) → following es r vs ≡ Some v → (among v vs ≡ false) × (v < 2 * r)
  following_some vs v h = next_waits vs v (next_from vs v h)

  following_none : (vs : List ℕ) → following es r vs ≡ None → (u : ℕ) → u < 2 * r → among u vs ≡ false → degree es u ≡ 0
  following_none vs h u l n = none_found (degree es) (waits vs) (2 * r) (either_none (near vs) (far vs) h) u l (not_from_false (among u vs) n)

  pub order_lined : Lined (2 * r) (order es r)
  order_lined = grown_lined (2 * r) (degree es) (following es r) following_some following_none (2 * r) [] (following es r []) refl (record { low = tt; apart = λ s. omega arith })

  pub order_all : (u : ℕ) → u < 2 * r → 0 < degree es u → among u (order es r) ≡ true
  order_all = grown_all (2 * r) (degree es) (following es r) following_some following_none (2 * r) [] (following es r []) refl (record { low = tt; apart = λ s. omega arith }) (omega arith)
