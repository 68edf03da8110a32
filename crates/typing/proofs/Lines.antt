-- How a text grows by whole lines.
use Rattle.std.proofs.Common.{◌≡◌, ℕ, List, [], ◌∷◌, ◌++◌, true, refl, sym, ap, ◌∙◌, append_assoc, append-nil, Result, OnOk}
use Rattle.std.proofs.lemmas.Result.{on_ok_weaker}
use Rattle.typing.specs.Lines.{AddsLines, ended_from, is_ended}

-- what stands before the last piece does not matter
pub ended_later : (x : ℕ) (front : List ℕ) (y : ℕ) (ys : List ℕ) → ended_from x (front ++ y ∷ ys) ≡ ended_from y ys
ended_later x [] y ys = refl
ended_later x (z ∷ front) y ys = ended_later z front y ys

ended_append : (front rest : List ℕ) → is_ended front ≡ true → is_ended rest ≡ true → is_ended (front ++ rest) ≡ true
ended_append front [] e f = ap is_ended (append-nil front) ∙ e
ended_append front (y ∷ ys) e f = ended_later 10 front y ys ∙ f

module _ {old new : List ℕ} where
  -- the text stays
  pub adds_none : new ≡ old → AddsLines old new
  adds_none same = record { lines = []; added = same ∙ sym (append-nil old); ended = refl }

  -- lines after lines
  pub adds_then : {between : List ℕ} → AddsLines old between → AddsLines between new → AddsLines old new
  adds_then before after = record {
    lines = before.lines ++ after.lines;
    added = after.added ∙ ap (λ front. front ++ after.lines) before.added ∙ append_assoc old _ _;
    ended = ended_append before.lines after.lines before.ended after.ended;
  }

-- what a write added ends a line
pub adds_write : {T E : Type 0} (result : Result T E) (old new lines : List ℕ) → OnOk result (new ≡ old ++ lines) → is_ended lines ≡ true → OnOk result (AddsLines old new)
adds_write result old new lines wrote ended = on_ok_weaker result (λ added. record { lines = lines; added = added; ended = ended }) wrote
