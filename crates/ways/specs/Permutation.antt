-- What a way means, and the law that every way shows.
use Rattle.std.specs.Prelude.{◌≡◌, ℕ, ◌%◌, ◌<◌, ◌≤◌}

-- a way: its size n, and for each level (0 to 2,047) the rotation of each step (0 to n - 1)
pub record Meaning : Type 0 where
  pub size : ℕ
  pub rotation : ℕ → ℕ → ℕ

-- what a way answers for any level and step: a greater level is read mod 2,048, a step mod the size
abbrev pub asked : Meaning → ℕ → ℕ → ℕ
asked w l j = w.rotation (l % 2048) (j % w.size)

-- the law: the size is 1 to 1,024, and at every level the rotations of the n steps are 0 to n - 1, each once
pub record Permutes (w : Meaning) : Type 0 where
  pub some : 1 ≤ w.size
  pub most : w.size ≤ 1024
  pub below : (l j : ℕ) → l < 2048 → j < w.size → w.rotation l j < w.size
  pub once : (l j k : ℕ) → l < 2048 → j < w.size → k < w.size → w.rotation l j ≡ w.rotation l k → j ≡ k
  pub reached : (l v : ℕ) → l < 2048 → v < w.size → (j : ℕ) × (j < w.size) × (w.rotation l j ≡ v)
