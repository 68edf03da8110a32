-- The search for the first rotation that fits, step by step.
use Rattle.std.proofs.Common.{◌≡◌, ℕ, zero, suc, ◌+◌, ◌-◌, ◌/◌, ◌%◌, ◌<◌, ◌≤◌, Bool, true, false, cond, List, length, get_or, is_some, Some, None, Option, sym, refl, ap, ◌∙◌, inl, inr, mod-lt, add-one, arith}
use native.Mathlib.Nat.{div-add-mod, mod-add-mod}
use Rattle.std.proofs.lemmas.Bool.{cases_Bool}
use Rattle.std.proofs.lemmas.List.{get_or-map, length-map}
use Rattle.ways.specs.Coprime.{same_mod}
use Rattle.runs.specs.Lists.{among, Distinct}
use Rattle.runs.specs.Fitting.{turned, free, first_fit}
use Rattle.runs.proofs.Fits.{free_exactly, blocked_exactly}
use Rattle.fitting.specs.Placing.{Apart, FilledAre}

-- a rotation moves all slots alike
shifted : (n v b c : ℕ) → (b + v) % n ≡ (c + v) % n → b % n ≡ c % n
shifted n v b c e =
    let p = div-add-mod (b + v) n in
    let q = div-add-mod (c + v) n in
    same_mod n b c ((c + v) / n) ((b + v) / n) (omega arith)

moved : (n v b c : ℕ) → b % n ≡ c % n → (b + v) % n ≡ (c + v) % n
moved n v b c e = sym (mod-add-mod b n v) ∙ ap (λ t. (t + v) % n) e ∙ mod-add-mod c n v

turned_at : (n v : ℕ) (bs : List ℕ) (k : ℕ) → k < length bs → get_or (turned n v bs) k 0 ≡ (get_or bs k 0 + v) % n
turned_at n v bs k h = get_or-map (λ b. (b + v) % n) bs k 0 0 h

length_turned : (n v : ℕ) (bs : List ℕ) → length (turned n v bs) ≡ length bs
length_turned n v bs = length-map bs (λ b. (b + v) % n)

-- where two offsets are the same, no rotation fits; where none are, empty slots are all that it needs
module _ (n : ℕ) (bs filled : List ℕ) where
  apart_from : (v : ℕ) → Distinct 0 (turned n v bs) → Apart n bs
  apart_from v d j k h =
      let a = h.0 in
      let b = h.1 in
      d j k a (omega (arith, length_turned n v bs)) (turned_at n v bs j (omega arith) ∙ moved n v _ _ h.2 ∙ sym (turned_at n v bs k b))

  pub alike_blocked : (Apart n bs → ⊥) → (v : ℕ) → free filled (turned n v bs) ≡ false
  alike_blocked no_apart v = elim (cases_Bool (free filled (turned n v bs))) [
    | inl e ↦ absurd (no_apart (apart_from v ((free_exactly filled (turned n v bs)).0 e).different))
    | inr e ↦ e
  ]

  distinct_from : (v : ℕ) → Apart n bs → Distinct 0 (turned n v bs)
  distinct_from v a j k l h e =
      let long = length_turned n v bs in
      let in_k : k < length bs = omega arith in
      let in_j : j < length bs = omega arith in
      a j k (l, in_k, shifted n v _ _ (sym (turned_at n v bs j in_j) ∙ e ∙ turned_at n v bs k in_k))

  module _ (slots : List (Option ℕ)) (long : length slots ≡ n) (some : 1 ≤ n) (are : FilledAre filled slots) where
    taken_is : (v k : ℕ) (t : Bool) → k < length bs → is_some (get_or slots ((get_or bs k 0 + v) % n) None) ≡ t → among (get_or (turned n v bs) k 0) filled ≡ t
    taken_is v k t h e =
        ap (λ s. among s filled) (turned_at n v bs k h) ∙ sym (are ((get_or bs k 0 + v) % n) (omega (arith, mod-lt (get_or bs k 0 + v) some))) ∙ e

    pub taken_blocked : (v k : ℕ) → k < length bs → is_some (get_or slots ((get_or bs k 0 + v) % n) None) ≡ true → free filled (turned n v bs) ≡ false
    taken_blocked v k h e = (blocked_exactly filled (turned n v bs)).1 (inl (record { name = k; within = omega (arith, length_turned n v bs); taken = taken_is v k true h e }))

    pub empty_fits : (v : ℕ) → Apart n bs → ((k : ℕ) → k < length bs → is_some (get_or slots ((get_or bs k 0 + v) % n) None) ≡ false) → free filled (turned n v bs) ≡ true
    empty_fits v a e = (free_exactly filled (turned n v bs)).1 (record {
      empty = λ k h. let in_k : k < length bs = omega (arith, length_turned n v bs) in taken_is v k false in_k (e k in_k);
      different = distinct_from v a;
    })

-- the search from one step on
module _ (n : ℕ) (rotation : ℕ → ℕ) (filled bs : List ℕ) where
  here : (k j : ℕ) → 0 < k → first_fit n rotation filled bs k j ≡ cond (free filled (turned n (rotation j) bs)) (Some (rotation j, j + 1)) (first_fit n rotation filled bs (k - 1) (j + 1))
  here zero j h = absurd (omega arith)
  here (suc k) j h =
      let e : suc k - 1 ≡ k = omega arith in
      rw (e, add-one) refl

  pub none_fits : ((v : ℕ) → free filled (turned n v bs) ≡ false) → (k j : ℕ) → first_fit n rotation filled bs k j ≡ None
  none_fits h zero j = refl
  none_fits h (suc k) j = ap (λ b. cond b (Some (rotation j, suc j)) (first_fit n rotation filled bs k (suc j))) (h (rotation j)) ∙ none_fits h k (suc j)

  pub go_on : (j : ℕ) {o : Option (ℕ × ℕ)} → j < n → free filled (turned n (rotation j) bs) ≡ false → first_fit n rotation filled bs (n - j) j ≡ o → first_fit n rotation filled bs (n - (j + 1)) (j + 1) ≡ o
  go_on j {o} h f inv =
      let e : n - j - 1 ≡ n - (j + 1) = omega arith in
      ap (λ k. first_fit n rotation filled bs k (j + 1)) (sym e)
      ∙ sym (here (n - j) j (omega arith) ∙ ap (λ b. cond b (Some (rotation j, j + 1)) (first_fit n rotation filled bs (n - j - 1) (j + 1))) f) ∙ inv

  pub stop : (j : ℕ) {o : Option (ℕ × ℕ)} → j < n → free filled (turned n (rotation j) bs) ≡ true → first_fit n rotation filled bs (n - j) j ≡ o → Some (rotation j, j + 1) ≡ o
  stop j {o} h f inv =
      sym (here (n - j) j (omega arith) ∙ ap (λ b. cond b (Some (rotation j, j + 1)) (first_fit n rotation filled bs (n - j - 1) (j + 1))) f) ∙ inv
