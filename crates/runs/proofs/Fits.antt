-- The first rotation that fits: the test, the relation, and the search for it.
use Rattle.std.proofs.Common.{◌≡◌, ℕ, zero, suc, ◌+◌, ◌<◌, ◌≤◌, Bool, true, false, cond, not, ◌&&◌, ◌||◌, eqb, ◌⊎◌, ◌↔◌, List, [], ◌∷◌, length, get_or, Some, None, Option, sym, refl, ap, ◌∙◌, inl, inr, arith}
use Rattle.std.proofs.lemmas.Bool.{eqb-true, eq-eqb, ne_eqb, cases_Bool, cases_eq, and_parts, and_cases, not-true, not-false, both_ways, or_cases}
use Rattle.runs.specs.Lists.{among, repeats}
use Rattle.runs.specs.Fitting.{turned, free, AllFree, Blocked, first_fit}
use Rattle.runs.proofs.Times.{one_le, one_false, times, times_not_among}
use Rattle.runs.proofs.Distinct.{repeats_false}

-- what is among numbers stands at a place
among_place : (s : ℕ) (ss : List ℕ) → among s ss ≡ true → (i : ℕ) × (i < length ss) × (s ≡ get_or ss i 0)
among_place s [] h = absurd (both_ways false refl h)
among_place s (x ∷ ss) h = elim (or_cases (eqb s x) (among s ss) h) [
  | inl e ↦ (0, omega arith, eqb-true s x e)
  | inr e ↦ let p = among_place s ss e in (suc p.0, omega (arith, p.1), p.2)
]

module _ (filled : List ℕ) where
  free_parts : (s : ℕ) (ss : List ℕ) → free filled (s ∷ ss) ≡ true → (among s filled ≡ false) × (among s ss ≡ false) × (free filled ss ≡ true)
  free_parts s ss h =
      let p = and_parts (not (among s filled)) (not (among s ss) && free filled ss) h in
      let q = and_parts (not (among s ss)) (free filled ss) p.1 in
      (not-true (among s filled) p.0, not-true (among s ss) q.0, q.1)

  free_empty : (ss : List ℕ) → free filled ss ≡ true → (i : ℕ) → i < length ss → among (get_or ss i 0) filled ≡ false
  free_empty [] h i l = absurd (omega arith)
  free_empty (s ∷ ss) h zero l = (free_parts s ss h).0
  free_empty (s ∷ ss) h (suc i) l = free_empty ss (free_parts s ss h).2 i (omega arith)

  free_once : (ss : List ℕ) → free filled ss ≡ true → repeats eqb ss ≡ false
  free_once [] h = refl
  free_once (s ∷ ss) h = let p = free_parts s ss h in ap (λ b. b || repeats eqb ss) p.1 ∙ free_once ss p.2

  free_all : (ss : List ℕ) → free filled ss ≡ true → AllFree filled ss
  free_all ss h = record { empty = free_empty ss h; different = repeats_false eqb (λ x. eq-eqb x x refl) 0 ss (free_once ss h) }

  into_later : (s : ℕ) (ss : List ℕ) → Blocked filled ss → Blocked filled (s ∷ ss)
  into_later s ss (inl b) = inl (record { name = suc b.name; within = omega (arith, b.within); taken = b.taken })
  into_later s ss (inr b) = inr (record { one = suc b.one; other = suc b.other; before = omega (arith, b.before); within = omega (arith, b.within); same = b.same })

  not_free : (ss : List ℕ) → free filled ss ≡ false → Blocked filled ss
  not_free [] h = absurd (both_ways true h refl)
  not_free (s ∷ ss) h = elim (and_cases (not (among s filled)) (not (among s ss) && free filled ss) h) [
    | inl e ↦ inl (record { name = 0; within = omega arith; taken = not-false (among s filled) e })
    | inr e ↦ elim (and_cases (not (among s ss)) (free filled ss) e) [
      | inl f ↦ let p = among_place s ss (not-false (among s ss) f) in inr (record { one = 0; other = suc p.0; before = omega arith; within = omega (arith, p.1); same = p.2 })
      | inr f ↦ into_later s ss (not_free ss f)
    ]
  ]

  not_both : (ss : List ℕ) → AllFree filled ss → Blocked filled ss → ⊥
  not_both ss a (inl b) = both_ways (among (get_or ss b.name 0) filled) (a.empty b.name b.within) b.taken
  not_both ss a (inr b) = a.different b.one b.other b.before b.within b.same

  -- the test tells which of the two it is
  pub free_exactly : (ss : List ℕ) → (free filled ss ≡ true) ↔ AllFree filled ss
  free_exactly ss = (free_all ss, λ a. elim (cases_Bool (free filled ss)) [ inl e ↦ e | inr e ↦ absurd (not_both ss a (not_free ss e)) ])

  pub blocked_exactly : (ss : List ℕ) → (free filled ss ≡ false) ↔ Blocked filled ss
  blocked_exactly ss = (not_free ss, λ b. elim (cases_Bool (free filled ss)) [ inl e ↦ absurd (not_both ss (free_all ss e) b) | inr e ↦ e ])

  -- free slots come to the filled ones with none twice
  pub free_apart : (ss : List ℕ) → free filled ss ≡ true → (s : ℕ) → times s filled ≤ 1 → times s filled + times s ss ≤ 1
  free_apart [] f s h = omega arith
  free_apart (x ∷ ss) f s h = elim (cases_eq s x) [
    | inl e ↦ omega (
      arith,
      one_le (eqb s x),
      ap (λ u. times u filled) e ∙ times_not_among x filled (free_parts x ss f).0,
      ap (λ u. times u ss) e ∙ times_not_among x ss (free_parts x ss f).1,
    )
    | inr e ↦ omega (arith, one_false (eqb s x) (ne_eqb s x e), free_apart ss (free_parts x ss f).2 s h)
  ]

found_cond : (t : Bool) (a : ℕ × ℕ) (o : Option (ℕ × ℕ)) (x : ℕ × ℕ) → cond t (Some a) o ≡ Some x → ((t ≡ true) × (a ≡ x)) ⊎ ((t ≡ false) × (o ≡ Some x))
found_cond true a o x h = inl (refl, cc)
found_cond false a o x h = inr (refl, h)

none_cond : (t : Bool) (a : ℕ × ℕ) (o : Option (ℕ × ℕ)) → cond t (Some a) o ≡ None → (t ≡ false) × (o ≡ None)
none_cond true a o h = absurd cc
none_cond false a o h = (refl, h)

module _ (n : ℕ) (rotation : ℕ → ℕ) (filled bs : List ℕ) where
  abbrev test : ℕ → Bool
  test j = free filled (turned n (rotation j) bs)

  -- what holds of the steps from j + 1 and of j holds of those from j
  from_here : (P : ℕ → Type 0) (j : ℕ) → P j → (u : ℕ) → (suc j ≤ u → P u) → j ≤ u → P u
  from_here P j p u h l = elim (cases_eq j u) [ inl e ↦ rw (← e) p | inr e ↦ h (omega arith) ]

  -- x is the rotation of the step, one of k from j on, and it is the first that fits
  pub record FirstStep (k j : ℕ) (x : ℕ × ℕ) : Type 0 where
    pub step : ℕ
    pub from : j ≤ step
    pub upto : step < j + k
    pub tries : x.1 ≡ suc step
    pub rotated : rotation step ≡ x.0
    pub fits : free filled (turned n x.0 bs) ≡ true
    pub before : (u : ℕ) → j ≤ u → u < step → test u ≡ false

  pub first_some : (k j : ℕ) (x : ℕ × ℕ) → first_fit n rotation filled bs k j ≡ Some x → FirstStep k j x
  first_some zero j x h = absurd cc
  first_some (suc k) j x h = elim (found_cond (test j) (rotation j, suc j) (first_fit n rotation filled bs k (suc j)) x h) [
    | inl p ↦ record {
      step = j;
      from = omega arith;
      upto = omega arith;
      tries = sym (ap (λ (y : ℕ × ℕ). y.1) p.1);
      rotated = ap (λ (y : ℕ × ℕ). y.0) p.1;
      fits = ap (λ (y : ℕ × ℕ). free filled (turned n y.0 bs)) (sym p.1) ∙ p.0;
      before = λ u a b. absurd (omega arith);
    }
    | inr p ↦ let q = first_some k (suc j) x p.1 in record {
      step = q.step;
      from = omega (arith, q.from);
      upto = omega (arith, q.upto);
      tries = q.tries;
      rotated = q.rotated;
      fits = q.fits;
      before = λ u a b. from_here (λ v. test v ≡ false) j p.0 u (λ c. q.before u c b) a;
    }
  ]

  pub first_none : (k j : ℕ) → first_fit n rotation filled bs k j ≡ None → (u : ℕ) → j ≤ u → u < j + k → test u ≡ false
  first_none zero j h u a b = absurd (omega arith)
  first_none (suc k) j h u a b =
      let p = none_cond (test j) (rotation j, suc j) (first_fit n rotation filled bs k (suc j)) h in
      from_here (λ v. test v ≡ false) j p.0 u (λ c. first_none k (suc j) p.1 u c (omega arith)) a
