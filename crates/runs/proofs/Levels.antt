-- What one more level adds to the slots of the settled names: the slots that its rotation gives.
use Rattle.std.proofs.Common.{◌≡◌, ℕ, ◌+◌, ◌%◌, ◌<◌, Bool, true, false, cond, ◌&&◌, ◌||◌, eqb, ◌⊎◌, List, [], ◌∷◌, ◌++◌, map, length, get_or, set, filter, sym, refl, ap, ◌∙◌, ap₂, inl, inr, arith}
use native.Mathlib.Nat.{mod-add-mod}
use Rattle.std.specs.List.{AllByRecursion}
use Rattle.std.proofs.lemmas.Bool.{eq-eqb, ne_eqb, cases_Bool, cases_eq}
use Rattle.std.proofs.lemmas.List.{get_or-set_same, get_or-set_other}
use Rattle.hashing.specs.Triples.{Triple}
use Rattle.runs.specs.Lists.{among}
use Rattle.runs.specs.Order.{joins}
use Rattle.runs.specs.Fitting.{slot, level_of, offset, turned, settles}
use Rattle.runs.proofs.Times.{one, times}

-- the slots of the names settled by vs
abbrev pub settled_by : ℕ → List ℕ → List ℕ → List Triple → List ℕ
settled_by n values vs es = map (slot n values) (filter (settles vs) es)

pub among_push : (u v : ℕ) (vs : List ℕ) → among u (vs ++ v ∷ []) ≡ (eqb u v || among u vs)
among_push u v [] = refl
among_push u v (x ∷ xs) = ap (λ b. eqb u x || b) (among_push u v xs) ∙ swap (eqb u x) (eqb u v) (among u xs)
  where
    swap : (a b c : Bool) → (a || (b || c)) ≡ (b || (a || c))
    swap true true c = refl
    swap true false c = refl
    swap false true c = refl
    swap false false c = refl

module _ (n : ℕ) (values vs : List ℕ) (v x : ℕ) (inside : v < length values) (fresh : among v vs ≡ false) where
  abbrev more : List ℕ
  more = vs ++ v ∷ []

  abbrev after : List ℕ
  after = set values v x

  -- what is known of a vertex other than v, and of v
  other : (u : ℕ) → (v ≡ u → ⊥) → (among u more ≡ among u vs) × (eqb v u ≡ false) × (get_or after u 0 ≡ get_or values u 0)
  other u h = (among_push u v vs ∙ ap (λ b. b || among u vs) (ne_eqb u v (λ e. h (sym e))), ne_eqb v u h, get_or-set_other values v u x 0 (λ e. h (sym e)))

  same : (u : ℕ) → v ≡ u → (among u more ≡ true) × (eqb v u ≡ true) × (get_or after u 0 ≡ x) × (among u vs ≡ false)
  same u h = (among_push u v vs ∙ ap (λ b. b || among u vs) (eq-eqb u v (sym h)), eq-eqb v u h, ap (λ w. get_or after w 0) (sym h) ∙ get_or-set_same values v x 0 inside, ap (λ w. among w vs) (sym h) ∙ fresh)

  -- an edge is settled with v, settled before, in the level of v: which of these, and its slot
  record Known (e : Triple) (now before new : Bool) : Type 0 where
    now_is : settles more e ≡ now
    before_is : settles vs e ≡ before
    new_is : joins vs v e ≡ new

  abbrev Cases : Triple → Type 0
  Cases e =
      (Known e true true false × (slot n after e ≡ slot n values e)) ⊎
      ((Known e true false true × (slot n after e ≡ (offset n values v e + x) % n)) ⊎ Known e false false false)

  known : (e : Triple) (a b c d p q : Bool) → eqb v e.h1 ≡ a → among e.h2 vs ≡ b → eqb v e.h2 ≡ c → among e.h1 vs ≡ d → among e.h1 more ≡ p → among e.h2 more ≡ q →
      Known e (p && q) (d && b) ((a && b) || (c && d))
  known e a b c d p q ea eb ec ed ep eq = record {
    now_is = ap₂ (λ y z. y && z) ep eq;
    before_is = ap₂ (λ y z. y && z) ed eb;
    new_is = ap₂ (λ y z. y || z) (ap₂ (λ y z. y && z) ea eb) (ap₂ (λ y z. y && z) ec ed);
  }

  edge_at_first : (e : Triple) → v ≡ e.h1 → (v ≡ e.h2 → ⊥) → Cases e
  edge_at_first e a b =
      let p = same e.h1 a in
      let q = other e.h2 b in
      elim (cases_Bool (among e.h2 vs)) [
        | inl t ↦ inr (inl (
          known e true true false false true true p.1 t q.1 p.3 p.0 (q.0 ∙ t),
          ap₂ (λ y z. (e.h0 + y + z) % n) p.2 q.2 ∙
              ap (λ m. m % n) (let w : e.h0 + x + get_or values e.h2 0 ≡ (e.h0 + get_or values e.h2 0) + x = omega arith in w) ∙
              sym (mod-add-mod (e.h0 + get_or values e.h2 0) n x) ∙
              ap (λ c. ((e.h0 + get_or values (cond c e.h2 e.h1) 0) % n + x) % n) (sym p.1),
        ))
        | inr t ↦ inr (inr (known e true false false false true false p.1 t q.1 p.3 p.0 (q.0 ∙ t)))
      ]

  edge_at_second : (e : Triple) → (v ≡ e.h1 → ⊥) → v ≡ e.h2 → Cases e
  edge_at_second e a b =
      let p = same e.h2 b in
      let q = other e.h1 a in
      elim (cases_Bool (among e.h1 vs)) [
        | inl t ↦ inr (inl (
          known e false false true true true true q.1 p.3 p.1 t (q.0 ∙ t) p.0,
          ap₂ (λ y z. (e.h0 + y + z) % n) q.2 p.2 ∙
              sym (mod-add-mod (e.h0 + get_or values e.h1 0) n x) ∙
              ap (λ c. ((e.h0 + get_or values (cond c e.h2 e.h1) 0) % n + x) % n) (sym q.1),
        ))
        | inr t ↦ inr (inr (known e false false true false false true q.1 p.3 p.1 t (q.0 ∙ t) p.0))
      ]

  edge_elsewhere : (e : Triple) → (v ≡ e.h1 → ⊥) → (v ≡ e.h2 → ⊥) → Cases e
  edge_elsewhere e a b = go (among e.h1 vs) (among e.h2 vs) refl refl
    where
      p : (among e.h1 more ≡ among e.h1 vs) × (eqb v e.h1 ≡ false) × (get_or after e.h1 0 ≡ get_or values e.h1 0)
      p = other e.h1 a

      q : (among e.h2 more ≡ among e.h2 vs) × (eqb v e.h2 ≡ false) × (get_or after e.h2 0 ≡ get_or values e.h2 0)
      q = other e.h2 b

      go : (s t : Bool) → among e.h1 vs ≡ s → among e.h2 vs ≡ t → Cases e
      go true true f g = inl (known e false true false true true true p.1 g q.1 f (p.0 ∙ f) (q.0 ∙ g), ap₂ (λ y z. (e.h0 + y + z) % n) p.2 q.2)
      go true false f g = inr (inr (known e false false false true true false p.1 g q.1 f (p.0 ∙ f) (q.0 ∙ g)))
      go false true f g = inr (inr (known e false true false false false true p.1 g q.1 f (p.0 ∙ f) (q.0 ∙ g)))
      go false false f g = inr (inr (known e false false false false false false p.1 g q.1 f (p.0 ∙ f) (q.0 ∙ g)))

  edge_cases : (e : Triple) → (e.h1 ≡ e.h2 → ⊥) → Cases e
  edge_cases e d = elim (cases_eq v e.h1) [
    | inl a ↦ edge_at_first e a (λ b. d (sym a ∙ b))
    | inr a ↦ elim (cases_eq v e.h2) [ inl b ↦ edge_at_second e a b | inr b ↦ edge_elsewhere e a b ]
  ]

  pub level_adds : (s : ℕ) (es : List Triple) → AllByRecursion (λ e. e.h1 ≡ e.h2 → ⊥) es →
      times s (settled_by n after more es) ≡ times s (settled_by n values vs es) + times s (turned n x (map (offset n values v) (level_of es vs v)))
  level_adds s [] d = refl
  level_adds s (e ∷ es) d = elim (edge_cases e d.0) [
    | inl k ↦ simp (k.0.now_is, k.0.before_is, k.0.new_is) (omega (arith, level_adds s es d.1, ap (λ m. one (eqb s m)) k.1))
    | inr r ↦ elim r [
      | inl k ↦ simp (k.0.now_is, k.0.before_is, k.0.new_is) (omega (arith, level_adds s es d.1, ap (λ m. one (eqb s m)) k.1))
      | inr k ↦ simp (k.now_is, k.before_is, k.new_is) (level_adds s es d.1)
    ]
  ]

  -- the slots that x gives to the level are those of its names once v has the value x
  pub level_turned : (es : List Triple) → AllByRecursion (λ e. e.h1 ≡ e.h2 → ⊥) es →
      turned n x (map (offset n values v) (level_of es vs v)) ≡ map (slot n after) (level_of es vs v)
  level_turned [] d = refl
  level_turned (e ∷ es) d = elim (edge_cases e d.0) [
    | inl k ↦ simp k.0.new_is (level_turned es d.1)
    | inr r ↦ elim r [
      | inl k ↦ simp k.0.new_is (ap₂ (λ y ys. y ∷ ys) (sym k.1) (level_turned es d.1))
      | inr k ↦ simp k.new_is (level_turned es d.1)
    ]
  ]
