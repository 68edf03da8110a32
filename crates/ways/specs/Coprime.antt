-- A stride that is coprime to the size goes through every rotation. Assumes nothing.
use Rattle.std.specs.Prelude.{◌≡◌, ℕ, zero, suc, ◌+◌, ◌*◌, ◌/◌, ◌%◌, ◌<◌, ◌≤◌}
use Rattle.std.proofs.Common.{sym, ◌∙◌, ap, inl, inr, mod-eq_of_lt, mod-lt, arith}
use Rattle.std.proofs.Math.Nat.{add-mul-mod_self_left, mod_self, div-add-mod}
use Rattle.std.proofs.lemmas.Bool.{cases_eq}
use Rattle.ways.specs.Divisors.{Coprime}
use Rattle.ways.specs.Divides.{mod_divided}

-- numbers that differ by multiples of n are the same mod n
pub same_mod : (n x y a b : ℕ) → x + n * a ≡ y + n * b → x % n ≡ y % n
same_mod n x y a b e =
    sym (add-mul-mod_self_left x n a) ∙ ap (λ t. t % n) e ∙ add-mul-mod_self_left y n b

-- a common divisor that is a multiple of a less a multiple of b
pub record Common (a b : ℕ) : Type 0 where
  pub g : ℕ
  pub x : ℕ
  pub y : ℕ
  pub some : 1 ≤ g
  pub left : a % g ≡ 0
  pub right : b % g ≡ 0
  pub sum : a * x ≡ g + b * y

swap : (a b g x y : ℕ) → suc b * y ≡ g + suc a * x → suc a * (b * (x + y) + y) ≡ g + suc b * (a * (x + y) + x)
swap a b g x y e = omega arith

swapped : (a b g x y : ℕ) → 1 ≤ a → 1 ≤ b → b * y ≡ g + a * x → (u : ℕ) × (v : ℕ) × (a * u ≡ g + b * v)
swapped zero b g x y ha hb e = absurd (omega arith)
swapped (suc a) zero g x y ha hb e = absurd (omega arith)
swapped (suc a) (suc b) g x y ha hb e = (b * (x + y) + y, a * (x + y) + x, swap a b g x y e)

step : (a b k r g x y : ℕ) → b * k + r ≡ a → b * x ≡ g + r * y → b * (x + k * y) ≡ g + a * y
step a b k r g x y ea e = omega (arith, ap (λ t. t * y) ea)

whole : (a b k : ℕ) → b * k ≡ a → 1 ≤ a → (y : ℕ) × (a * 1 ≡ b + b * y)
whole a b zero e h = absurd (omega arith)
whole a b (suc k) e h = (k, omega arith)

pub common : (f a b : ℕ) → b ≤ f → 1 ≤ a → 1 ≤ b → Common a b
common zero a b hf ha hb = absurd (omega arith)
common (suc f) a b hf ha hb =
    elim (cases_eq (a % b) 0) [
      | inl e ↦
          let w = whole a b (a / b) (let d = div-add-mod a b in omega arith) ha in
          record { g = b; x = 1; y = w.0; some = hb; left = e; right = mod_self b; sum = w.1 }
      | inr ne ↦
          let low : a % b < b = mod-lt a (omega arith) in
          let c : Common b (a % b) = common f b (a % b) (omega arith) hb (omega arith) in
          let s = swapped a b c.g c.y (c.x + a / b * c.y) ha hb
          (step a b (a / b) (a % b) c.g c.x c.y (div-add-mod a b) c.sum) in
          record { g = c.g; x = s.0; y = s.1; some = c.some; left = mod_divided a b c.g c.left c.right; right = c.left; sum = s.2 }
    ]

-- where n and q share no divisor above 1, some multiple of q is 1 mod n
pub inverse : (n q : ℕ) → 1 ≤ n → 1 ≤ q → Coprime n q → (i : ℕ) × (y : ℕ) × (q * i ≡ 1 + n * y)
inverse n q hn hq coprime =
    let c : Common q n = common n q n (omega arith) hq hn in
    elim (cases_eq c.g 1) [
      | inl e ↦ (c.x, c.y, omega (arith, c.sum))
      | inr ne ↦ absurd (coprime c.g (omega (arith, c.some)) c.right c.left)
    ]

once_eq : (n q i y a j k u v r : ℕ) → q * i ≡ 1 + n * y → n * u + r ≡ a + j * q → n * v + r ≡ a + k * q
    → j + n * (j * y + v * i) ≡ k + n * (k * y + u * i)
once_eq n q i y a j k u v r e p o =
    omega (arith, ap (λ t. t * j) e, ap (λ t. t * k) e, ap (λ t. t * i) p, ap (λ t. t * i) o)

-- steps of a stride that has an inverse are different
pub once : (n q a j k : ℕ) → 1 ≤ n → 1 ≤ q → Coprime n q → j < n → k < n → (a + j * q) % n ≡ (a + k * q) % n → j ≡ k
once n q a j k hn hq h hj hk e =
    let c = inverse n q hn hq h in
    let i = c.0 in let y = c.1 in
    let u = (a + j * q) / n in let v = (a + k * q) / n in
    sym (mod-eq_of_lt hj)
    ∙ same_mod n j k (j * y + v * i) (k * y + u * i)
    (once_eq n q i y a j k u v ((a + j * q) % n) c.2 (div-add-mod (a + j * q) n)
    (ap (λ t. n * v + t) e ∙ div-add-mod (a + k * q) n))
    ∙ mod-eq_of_lt hk

reach_eq : (n q i y a c t j v : ℕ) → q * i ≡ 1 + n * y → c + a ≡ v + n * a → n * t + j ≡ i * c
    → (a + j * q) + n * (t * q) ≡ v + n * (a + c * y)
reach_eq n q i y a c t j v e ec et = omega (arith, ap (λ z. z * c) e, ap (λ z. z * q) et)

-- and reach each number below n
pub reached : (n q a v : ℕ) → 1 ≤ n → 1 ≤ q → Coprime n q → v < n → (j : ℕ) × (j < n) × ((a + j * q) % n ≡ v)
reached zero q a v hn hq h hv = absurd (omega arith)
reached (suc m) q a v hn hq h hv =
    let s = inverse (suc m) q hn hq h in
    let c = v + m * a in
    let j = (s.0 * c) % suc m in (
      j,
      mod-lt (s.0 * c) hn,
      same_mod (suc m) (a + j * q) v (s.0 * c / suc m * q) (a + c * s.1)
          (reach_eq (suc m) q s.0 s.1 a c (s.0 * c / suc m) j v s.2 (omega arith) (div-add-mod (s.0 * c) (suc m)))
          ∙ mod-eq_of_lt hv,
    )
