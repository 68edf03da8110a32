-- How often a level gives a slot: a fit depends on nothing else of its names.
use Rattle.std.proofs.Common.{◌≡◌, ℕ, zero, suc, ◌+◌, ◌%◌, ◌<◌, ◌≤◌, Bool, true, false, cond, not, ◌&&◌, eqb, List, [], ◌∷◌, map, length, get_or, take, Some, sym, refl, ap, ◌∙◌, ap₂, inl, inr, add-one, arith}
use Rattle.std.proofs.lemmas.Bool.{cases_Bool, cases_eq, eq-eqb, ne_eqb, and_parts, and_from, not-true, not_from_false, both_ways}
use Rattle.std.proofs.lemmas.List.{map-append, take_all}
use Rattle.std.proofs.lemmas.List.Elements.{filter_more}
use Rattle.hashing.specs.Triples.{Triple}
use Rattle.runs.specs.Lists.{among}
use Rattle.runs.specs.Order.{joins}
use Rattle.runs.specs.Fitting.{level_of, offset, turned, free, first_fit}
use Rattle.runs.proofs.Times.{one, one_le, one_true, one_false, times, times_append, times_not_among, not_among_times}
use Rattle.graph.specs.Chains.{nil}
use Rattle.fitting.specs.Placing.{offsets}
use Rattle.leveling.specs.Level.{in_level, chain_names}

-- how many of the numbers below k pass
abbrev pub count : (ℕ → Bool) → ℕ → ℕ
count b zero = 0
count b (suc k) = one (b k) + count b k

pub count_some : (b : ℕ → Bool) (k i : ℕ) → i < k → b i ≡ true → 1 ≤ count b k
count_some b zero i l h = absurd (omega arith)
count_some b (suc k) i l h = elim (cases_eq i k) [
  | inl e ↦ omega (arith, one_true (b k) (ap b (sym e) ∙ h))
  | inr e ↦ omega (arith, count_some b k i (omega arith) h)
]

pub count_two : (b : ℕ → Bool) (k i j : ℕ) → j < i → i < k → b j ≡ true → b i ≡ true → 2 ≤ count b k
count_two b zero i j m l hj hi = absurd (omega arith)
count_two b (suc k) i j m l hj hi = elim (cases_eq i k) [
  | inl e ↦ omega (arith, one_true (b k) (ap b (sym e) ∙ hi), count_some b k j (omega arith) hj)
  | inr e ↦ omega (arith, count_two b k i j m (omega arith) hj hi)
]

pub count_find : (b : ℕ → Bool) (k : ℕ) → 1 ≤ count b k → (i : ℕ) × (i < k) × (b i ≡ true)
count_find b zero h = absurd (omega arith)
count_find b (suc k) h = elim (cases_Bool (b k)) [
  | inl e ↦ (k, omega arith, e)
  | inr e ↦ let p = count_find b k (omega (arith, one_false (b k) e)) in (p.0, omega (arith, p.1), p.2)
]

-- the name i gets the slot s from the rotation x
abbrev pub gets : List Triple → ℕ → List ℕ → List ℕ → ℕ → ℕ → ℕ → ℕ → Bool
gets es n values vs v x s i = in_level es vs v i && eqb ((offset n values v (get_or es i nil) + x) % n) s

pub one_and : (a : Bool) (s t : ℕ) → one (a && eqb t s) ≡ cond a (one (eqb s t)) 0
one_and true s t = elim (cases_eq s t) [
  | inl e ↦ ap one (eq-eqb t s (sym e) ∙ sym (eq-eqb s t e))
  | inr e ↦ ap one (ne_eqb t s (λ q. e (sym q)) ∙ sym (ne_eqb s t e))
]
one_and false s t = refl

module _ (es : List Triple) (n : ℕ) (values vs : List ℕ) (v x s : ℕ) where
  abbrev given : ℕ → Bool
  given = gets es n values vs v x s

  -- in the order of the chain, and in that of the names
  pub chain_times : (k : ℕ) → times s (turned n x (offsets (chain_names es n values vs v k))) ≡ count given k
  chain_times zero = refl
  chain_times (suc k) = elim (cases_Bool (in_level es vs v k)) [
    | inl e ↦ simp e (omega (arith, chain_times k, ap (λ a. one (a && eqb ((offset n values v (get_or es k nil) + x) % n) s)) e, one_and true s ((offset n values v (get_or es k nil) + x) % n)))
    | inr e ↦ simp e (omega (arith, chain_times k, ap (λ a. one (a && eqb ((offset n values v (get_or es k nil) + x) % n) s)) e))
  ]

  abbrev last : ℕ → List Triple
  last k = cond (joins vs v (get_or es k nil)) (get_or es k nil ∷ []) []

  last_times : (k : ℕ) → times s (turned n x (map (offset n values v) (last k))) ≡ one (given k)
  last_times k = elim (cases_Bool (in_level es vs v k)) [
    | inl e ↦ simp e (omega (arith, one_and true s ((offset n values v (get_or es k nil) + x) % n)))
    | inr e ↦ simp e refl
  ]

  level_times_to : (k : ℕ) → k ≤ length es → times s (turned n x (map (offset n values v) (level_of (take k es) vs v))) ≡ count given k
  level_times_to zero l = refl
  level_times_to (suc k) l =
      ap (λ j. times s (turned n x (map (offset n values v) (level_of (take j es) vs v)))) (sym (add-one k)) ∙
      ap (λ xs. times s (turned n x (map (offset n values v) xs))) (filter_more (joins vs v) es k nil (omega arith)) ∙
      ap (λ xs. times s (turned n x xs)) (map-append (offset n values v) (level_of (take k es) vs v) (last k)) ∙
      ap (times s) (map-append (λ b. (b + x) % n) (map (offset n values v) (level_of (take k es) vs v)) (map (offset n values v) (last k))) ∙
      times_append s (turned n x (map (offset n values v) (level_of (take k es) vs v))) (turned n x (map (offset n values v) (last k))) ∙
      ap₂ (λ a b. a + b) (level_times_to k (omega arith)) (last_times k) ∙ omega arith

  pub level_times : times s (turned n x (map (offset n values v) (level_of es vs v))) ≡ count given (length es)
  level_times = ap (λ xs. times s (turned n x (map (offset n values v) (level_of xs vs v)))) (sym (take_all (length es) es (omega arith))) ∙ level_times_to (length es) (omega arith)

-- slots are free if each is given once at most, and none that is given is filled
module _ (filled : List ℕ) where
  pub record Frees (ss : List ℕ) : Type 0 where
    pub once : (s : ℕ) → times s ss ≤ 1
    pub empty : (s : ℕ) → 1 ≤ times s ss → among s filled ≡ false

  pub frees_from : (ss : List ℕ) → free filled ss ≡ true → Frees ss
  frees_from [] h = record { once = λ s. omega arith; empty = λ s l. absurd (omega arith) }
  frees_from (y ∷ ss) h =
      let p = and_parts (not (among y filled)) (not (among y ss) && free filled ss) h in
      let q = and_parts (not (among y ss)) (free filled ss) p.1 in
      let f = frees_from ss q.1 in
      let z = times_not_among y ss (not-true (among y ss) q.0) in
      record {
        once = λ s. elim (cases_eq s y) [
          | inl e ↦ omega (arith, one_le (eqb s y), ap (λ u. times u ss) e)
          | inr e ↦ omega (arith, one_false (eqb s y) (ne_eqb s y e), f.once s)
        ];
        empty = λ s l. elim (cases_eq s y) [
          | inl e ↦ ap (λ u. among u filled) e ∙ not-true (among y filled) p.0
          | inr e ↦ f.empty s (omega (arith, one_false (eqb s y) (ne_eqb s y e)))
        ];
      }

  free_from : (ss : List ℕ) → Frees ss → free filled ss ≡ true
  free_from [] f = refl
  free_from (y ∷ ss) f =
      let here = one_true (eqb y y) (eq-eqb y y refl) in
      and_from (not (among y filled)) (not (among y ss) && free filled ss) (not_from_false (among y filled) (f.empty y (omega arith)))
      (and_from (not (among y ss)) (free filled ss) (not_from_false (among y ss) (not_among_times y ss (omega (arith, f.once y))))
      (free_from ss (record { once = λ s. omega (arith, f.once s); empty = λ s l. f.empty s (omega arith) })))

  frees_same : (xs ys : List ℕ) → ((s : ℕ) → times s xs ≡ times s ys) → Frees xs → Frees ys
  frees_same xs ys h f = record { once = λ s. omega (arith, f.once s, h s); empty = λ s l. f.empty s (omega (arith, h s)) }

  free_same : (xs ys : List ℕ) → ((s : ℕ) → times s xs ≡ times s ys) → free filled xs ≡ free filled ys
  free_same xs ys h = elim (cases_Bool (free filled xs)) [
    | inl e ↦ e ∙ sym (free_from ys (frees_same xs ys h (frees_from xs e)))
    | inr e ↦ elim (cases_Bool (free filled ys)) [
      | inl o ↦ absurd (both_ways (free filled xs) e (free_from xs (frees_same ys xs (λ s. sym (h s)) (frees_from ys o))))
      | inr o ↦ e ∙ sym o
    ]
  ]

  fit_same : (n : ℕ) (rotation : ℕ → ℕ) (bs cs : List ℕ) → ((x s : ℕ) → times s (turned n x bs) ≡ times s (turned n x cs)) → (k j : ℕ) → first_fit n rotation filled bs k j ≡ first_fit n rotation filled cs k j
  fit_same n rotation bs cs h zero j = refl
  fit_same n rotation bs cs h (suc k) j =
      ap₂ (λ b o. cond b (Some (rotation j, suc j)) o) (free_same (turned n (rotation j) bs) (turned n (rotation j) cs) (h (rotation j))) (fit_same n rotation bs cs h k (suc j))

  -- the order of a level's names does not matter
  pub chain_fit : (es : List Triple) (n : ℕ) (rotation : ℕ → ℕ) (values vs : List ℕ) (v k j : ℕ) → length es ≡ n →
      first_fit n rotation filled (offsets (chain_names es n values vs v n)) k j ≡ first_fit n rotation filled (map (offset n values v) (level_of es vs v)) k j
  chain_fit es n rotation values vs v k j e =
      fit_same n rotation (offsets (chain_names es n values vs v n)) (map (offset n values v) (level_of es vs v))
      (λ x s. chain_times es n values vs v x s n ∙ ap (count (gets es n values vs v x s)) (sym e) ∙ sym (level_times es n values vs v x s)) k j
