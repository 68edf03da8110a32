-- The map of `Hashed::clash`, from the triples seen so far to the numbers of their names.
use Rattle.std.proofs.Common.{◌≡◌, ◌≢◌, ℕ, ◌+◌, ◌-◌, ◌<◌, ◌≤◌, true, false, cond, List, length, arith, Some, None, BTreeMap, sym, ap, subst, ◌∙◌, ◌⊎◌, inl, inr}
use Rattle.std.proofs.lemmas.Bool.{cases_lt, cases_Bool}
use Rattle.std.proofs.lemmas.Grind.{common_steps}
use Rattle.std.proofs.lemmas.Option.{slice_get_within}
use Rattle.std.specs.BTreeMap.{get, is_at, Updates}
use Rattle.std.specs.List.{slice_get}
use Rattle.std.specs.Ordering.{nat_cmp, ordering_then, is_eq}
use Rattle.std.specs.declared.cmp.Ordering.{Ordering}
use Rattle.listing.specs.Clashes.{Triple, AreApart, IsFirstClash}

-- how the map compares triples
abbrev pub triple_cmp : Triple → Triple → Ordering
triple_cmp x y = ordering_then (ordering_then (nat_cmp x.0 y.0) (nat_cmp x.1 y.1)) (nat_cmp x.2 y.2)

-- no two of the first n triples are equal, and the map has each of them with its number, and no other
pub record Numbered (triples : List Triple) (n : ℕ) (numbers : BTreeMap Triple ℕ) : Type 0 where
  pub apart : AreApart n triples
  pub known : (q : Triple) (number : ℕ) → get triple_cmp numbers q ≡ Some number → (1 ≤ number) × (number ≤ n) × (slice_get triples (number - 1) ≡ Some q)
  pub unknown : (q : Triple) → get triple_cmp numbers q ≡ None → (k : ℕ) → k < n → slice_get triples k ≢ Some q

cmp_equal : (x y : Triple) → is_eq (triple_cmp x y) ≡ true → x ≡ y
cmp_equal x y e = grind (arith, common_steps)

module _ {triples : List Triple} {n : ℕ} {numbers : BTreeMap Triple ℕ} (before : Numbered triples n numbers) {triple : Triple} (here : slice_get triples n ≡ Some triple) where
  -- the triple is known, so its name and an earlier one have it
  pub first_clash : {number : ℕ} → Some number ≡ get triple_cmp numbers triple → IsFirstClash triples number (n + 1)
  first_clash {number} known =
      let back : n + 1 - 1 ≡ n = omega arith in
      let k = before.known triple number (sym known) in
      let within : n < length triples = slice_get_within triples n triple here in
      record {
        counted = k.0;
        ordered = omega arith;
        listed = omega arith;
        equal = rw back (cc);
        first = rw back before.apart;
      }

  module _ (is_new : None ≡ get triple_cmp numbers triple) where
    apart_more : AreApart (n + 1) triples
    apart_more i j lt within same = elim (cases_lt j n) [
      | inl below ↦ before.apart i j lt below same
      | inr past ↦ let last : j ≡ n = omega arith in before.unknown triple (sym is_new) i (omega arith) (cc)
    ]

    module _ (more : BTreeMap Triple ℕ) (step : Updates triple_cmp numbers more triple (Some (n + 1))) where
      put : (q : Triple) → is_at (triple_cmp triple) q ≡ true → get triple_cmp more q ≡ Some (n + 1)
      put q same = subst (λ b. get triple_cmp more q ≡ cond b (Some (n + 1)) (get triple_cmp numbers q)) same (step.0 q)

      known_more : (q : Triple) (number : ℕ) → get triple_cmp more q ≡ Some number → (1 ≤ number) × (number ≤ n + 1) × (slice_get triples (number - 1) ≡ Some q)
      known_more q number known = elim (cases_Bool (is_at (triple_cmp triple) q)) [
        | inl same ↦
            let now : get triple_cmp more q ≡ Some (n + 1) = put q same in
            let last : number ≡ n + 1 = cc in
            let back : number - 1 ≡ n = omega arith in
            (omega arith, omega arith, rw back (here ∙ ap (λ x. Some x) (cmp_equal triple q same)))
        | inr other ↦
            let k = before.known q number (sym (step.2 q other) ∙ known) in
            (k.0, omega arith, k.2)
      ]

      unknown_more : (q : Triple) → get triple_cmp more q ≡ None → (k : ℕ) → k < n + 1 → slice_get triples k ≢ Some q
      unknown_more q unknown k within same = elim (cases_lt k n) [
        | inl below ↦ before.unknown q (before_too q unknown (cases_Bool (is_at (triple_cmp triple) q))) k below same
        | inr past ↦
            let last : k ≡ n = omega arith in
            let it : triple ≡ q = cc in
            let now : get triple_cmp more q ≡ Some (n + 1) = subst (λ x. get triple_cmp more x ≡ Some (n + 1)) it step.1 in
            absurd (cc)
      ]
        where
          before_too : (q : Triple) → get triple_cmp more q ≡ None → (is_at (triple_cmp triple) q ≡ true) ⊎ (is_at (triple_cmp triple) q ≡ false) → get triple_cmp numbers q ≡ None
          before_too q unknown (inl same) = let now : get triple_cmp more q ≡ Some (n + 1) = put q same in cc
          before_too q unknown (inr other) = sym (step.2 q other) ∙ unknown

      pub numbered_more : Numbered triples (n + 1) more
      numbered_more = record { apart = apart_more; known = known_more; unknown = unknown_more }
