-- A spelling in 16 bytes.
use Rattle.std.proofs.Common.{◌≡◌, ℕ, zero, suc, ◌+◌, ◌-◌, ◌<◌, ◌≤◌, List, [], ◌∷◌, ◌++◌, length, get_or, replicate, sym, refl, ap, ◌∙◌, subst, inl, inr, add-one, arith, length-append}
use Rattle.std.proofs.lemmas.Bool.{cases_eq}
use Rattle.std.proofs.lemmas.List.{length-replicate}
use Rattle.std.specs.Fn.{Called}
use Rattle.std.specs.Array.{IsFromFnResultFrom, IsFromFnResult}
use denote.Param.Members.{Mut}
use Rattle.runs.specs.Plates.{Entry, padded, record_field}

pub length_padded : (s : List ℕ) → length s ≤ 16 → length (padded s) ≡ 16
length_padded s h = omega (arith, length-append s (replicate (16 - length s) 0), length-replicate {A = ℕ} (16 - length s) 0)

pub length_record : (e : Entry) → length e.spelling ≤ 16 → length (record_field e) ≡ 22
length_record e h = omega (arith, length_padded e.spelling h)

zeros_at : (m k : ℕ) → get_or (replicate {A = ℕ} m 0) k 0 ≡ 0
zeros_at zero k = refl
zeros_at (suc m) zero = refl
zeros_at (suc m) (suc k) = zeros_at m k

followed : (s : List ℕ) (m k : ℕ) → get_or s k 0 ≡ get_or (s ++ replicate m 0) k 0
followed [] m k = sym (zeros_at m k)
followed (x ∷ s) m zero = refl
followed (x ∷ s) m (suc k) = followed s m k

-- what a name tells at places from 1 on is its spelling with zeros behind it
pub told_padded : (s : List ℕ) (k b : ℕ) → b ≡ get_or (0 ∷ s) (k + 1) 0 → b ≡ get_or (padded s) k 0
told_padded s k b e = e ∙ rw add-one (followed s (16 - length s) k)

-- an array that a closure makes, which leaves what it captures as it was
made_from : {F : Type 0} (g : Mut F (ℕ × Unit {0}) ℕ) (f p : F) (h : ℕ → ℕ) (ys : List ℕ) (i n : ℕ) → p ≡ f → IsFromFnResultFrom g p ys i n →
    ((i y : ℕ) (q : F) → Called g f (i, tt) y q → (q ≡ f) × (y ≡ h i)) → (k : ℕ) → i ≤ k → k < i + n → get_or ys k 0 ≡ h k
made_from g f p h ys i zero e w c k a b = absurd (omega arith)
made_from g f p h ys i (suc n) e w c k a b =
    let told = c i w.1 w.0 (subst (λ p. Called g p (i, tt) w.1 w.0) e w.3) in
    elim (cases_eq i k) [
      | inl s ↦ ap (λ j. get_or ys j 0) (sym s) ∙ w.2.1 0 ∙ told.1 ∙ ap h s
      | inr s ↦ made_from g f w.0 h ys (i + 1) n told.0 w.4 c k (omega arith) (omega arith)
    ]

pub made : {F : Type 0} {g : Mut F (ℕ × Unit {0}) ℕ} {f : F} {ys : List ℕ} {n : ℕ} (h : ℕ → ℕ) → IsFromFnResult g f ys n →
    ((i y : ℕ) (q : F) → Called g f (i, tt) y q → (q ≡ f) × (y ≡ h i)) → (k : ℕ) → k < n → get_or ys k 0 ≡ h k
made {g = g} {f = f} {ys = ys} {n = n} h w c k b = made_from g f f h ys 0 n refl w.each c k (omega arith) (omega arith)
