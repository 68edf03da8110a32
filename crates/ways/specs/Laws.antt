-- The law of each way. Assumes nothing.
use Rattle.std.specs.Prelude.{◌≡◌, ℕ, ◌+◌, ◌*◌, ◌<◌, List, length, slice_index}
use Rattle.std.proofs.Common.{sym, inl, inr, mod-lt}
use Rattle.std.proofs.lemmas.Bool.{cases_order}
use Rattle.ways.specs.Permutation.{Permutes}
use Rattle.ways.specs.Stride.{StrideRule, stride_meaning}
use Rattle.ways.specs.Listing.{Different, Listed, list_meaning}
use Rattle.ways.specs.Pigeon.{onto}
use Rattle.ways.specs.Coprime as coprime

-- a stride that shares no divisor above 1 with the size goes through every rotation
pub stride_permutes : (n s q : ℕ) → StrideRule n s q → Permutes (stride_meaning n s q)
stride_permutes n s q ok = record {
  some = ok.0.0;
  most = ok.0.1;
  below = λ l j _ _. mod-lt (l * s + j * q) ok.0.0;
  once = λ l j k _ hj hk e. coprime.once n q (l * s) j k ok.0.0 ok.0.3 ok.1 hj hk e;
  reached = λ l v _ hv. coprime.reached n q (l * s) v ok.0.0 ok.0.3 ok.1 hv;
}

apart : (xs : List ℕ) → Different xs → (j k : ℕ) → j < length xs → k < length xs → slice_index xs j ≡ slice_index xs k → j ≡ k
apart xs d j k hj hk e =
    elim (cases_order j k) [
      | inl same ↦ same
      | inr o ↦ elim o [ inl lt ↦ absurd (d j k (lt, hk, e)) | inr gt ↦ absurd (d k j (gt, hj, sym e)) ]
    ]

-- different numbers below the length of their list are every number below it
pub list_permutes : (xs : List ℕ) → Listed xs → Permutes (list_meaning xs)
list_permutes xs ok = record {
  some = ok.0.0;
  most = ok.0.1;
  below = λ l j _ hj. ok.1.0 j hj;
  once = λ l j k _ hj hk e. apart xs ok.1.1 j k hj hk e;
  reached = λ l v _ hv. onto (length xs) (λ j. slice_index xs j) (record { low = ok.1.0; apart = apart xs ok.1.1 }) v hv;
}
