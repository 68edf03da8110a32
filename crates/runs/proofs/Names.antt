-- The names of a run are those of the enters that were not refused.
use Rattle.std.proofs.Common.{◌≡◌, ℕ, false, cond, List, [], ◌∷◌, ◌++◌, is_err, Some, None, Ok, Err, Option, sym, refl, ap, ◌∙◌, append_assoc}
use Rattle.std.proofs.lemmas.List.{append-nil}
use Rattle.runs.specs.declared.fault.PressFault.{PressFault}
use Rattle.runs.specs.Runs.{Run, Call, enter, map_to, order_by, fit, reopen, seal, refusal, fit_found, with_level, accepted, unless_refused, step, beginning, continued, reckoned, answer_accepted, answer, answers}
use Rattle.runs.specs.Laws.{named, entered_by}

module _ {N : Type 0} (spelling : N → List ℕ) where
  same_names : (m : Run N) (o : Option (ℕ × ℕ)) → (with_level spelling m o).names ≡ m.names
  same_names m None = refl
  same_names m (Some x) = refl

  -- an accepted call adds its name
  accepted_names : (m : Run N) (c : Call N) → (accepted spelling m c).names ≡ m.names ++ named c
  accepted_names m (enter l x v) = refl
  accepted_names m (map_to l r seed) = sym (append-nil m.names)
  accepted_names m (order_by l) = sym (append-nil m.names)
  accepted_names m (fit l w) = same_names m (fit_found spelling m w) ∙ sym (append-nil m.names)
  accepted_names m reopen = sym (append-nil m.names)
  accepted_names m (seal l room) = sym (append-nil m.names)

  step_names : (m : Run N) (c : Call N) → (step spelling m c).names ≡ m.names ++ cond (is_err (answer spelling m c)) [] (named c)
  step_names m c = go (refusal spelling m c)
    where
      go : (o : Option PressFault) → (unless_refused o (accepted spelling m c) (λ f. m)).names ≡ m.names ++ cond (is_err (unless_refused o (Ok (answer_accepted spelling m c)) (λ f. Err f))) [] (named c)
      go None = accepted_names m c
      go (Some f) = sym (append-nil m.names)

  names_on : (m : Run N) (calls : List (Call N)) → (continued spelling m calls).names ≡ m.names ++ entered_by calls (answers spelling m calls)
  names_on m [] = sym (append-nil m.names)
  names_on m (c ∷ cs) =
      names_on (step spelling m c) cs ∙ ap (λ xs. xs ++ entered_by cs (answers spelling (step spelling m c) cs)) (step_names m c) ∙
      append_assoc m.names (cond (is_err (answer spelling m c)) [] (named c)) (entered_by cs (answers spelling (step spelling m c) cs))

  pub names_were_entered : (calls : List (Call N)) → (reckoned spelling calls).names ≡ entered_by calls (answers spelling beginning calls)
  names_were_entered calls = names_on beginning calls
