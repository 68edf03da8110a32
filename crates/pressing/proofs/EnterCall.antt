-- Entering a name, at each of its exits; and reopening.
use Rattle.std.proofs.Common.{◌≡◌, ℕ, ◌+◌, ◌<◌, ◌≤◌, Bool, true, false, not, ltb, List, [], ◌∷◌, ◌++◌, map, length, take, set, Some, None, Ok, Err, Option, Result, sym, refl, ap, ◌∙◌, subst, arith}
use Rattle.std.specs.Str.{bytes_eq}
use Rattle.std.proofs.lemmas.List.{take_more_set, length-set, length_push, map_push}
use Rattle.std.proofs.lemmas.Simd.{map-map}
use Rattle.std.proofs.lemmas.Bool.{lt-ltb, le-ltb, not_from_true, not_from_false}
use Rattle.refusals.specs.Checks.{unless, or, first}
use Rattle.graph.specs.declared.rows.Row.{Row}
use Rattle.runs.specs.declared.stage.Stage.{Stage}
use Rattle.runs.specs.declared.stage.Stage.TheVariants.{Open, Sealed}
use Rattle.runs.specs.declared.fault.PressFault.{PressFault}
use Rattle.runs.specs.declared.fault.PressFault.TheVariants.{WrongStage, ShortList, TooManyNames, SpellingEntered}
use Rattle.runs.specs.declared.answer.Outcome.{Outcome}
use Rattle.runs.specs.declared.answer.Outcome.TheVariants as answered
use Rattle.runs.specs.Lists.{has}
use Rattle.runs.specs.Runs.{ample, Run, enter, reopen, is, rank, count, spellings, with_name, led_to, refusal}
use Rattle.pressing.specs.declared.press.Pressing.{Pressing}
use Rattle.pressing.specs.declared.stage.Event.TheVariants.{Enter, Reopen}
use Rattle.pressing.specs.Memory.{Memory, lent, with_row}
use Rattle.pressing.specs.Stages.{belongs, next_stage, begun}
use Rattle.pressing.specs.Left.{as_row, Kept, Held, Left}
use Rattle.pressing.specs.Calls.{enter_gate, reopen_gate, EnterDone, ReopenDone}
use Rattle.pressing.proofs.Room.{ample_all}
use Rattle.pressing.proofs.Steps.{stops, goes, first_behind, or_none, stage_passed, passed_by, barred_by, by_gate, by_lists, by_acceptance}

-- what the pressing keeps beside its stage is as it was
pub record Moved {N : Type 0} (p p' : Pressing N) : Type 0 where
  pub r : p'.r ≡ p.r
  pub seed : p'.seed ≡ p.seed
  pub level : p'.level ≡ p.level

-- at stage Open nothing but the rows is held
module _ {N : Type 0} (spelling : N → List ℕ) (m : Run N) (e : m.stage ≡ Open) where
  pub held_open : (l : Memory N) → take (count m) l.rows ≡ map as_row m.names → Held spelling m l
  held_open l h = record {
    names = h;
    mapped = λ b. absurd (omega (arith, ap rank e));
    ordered = λ b. absurd (omega (arith, ap rank e));
  }

module _ {N : Type 0} (spelling : N → List ℕ) (x : N) (v : ℕ) (p : Pressing N) (l : Memory N) where
  abbrev again : Run N → Bool
  again m = has bytes_eq (spelling x) (spellings spelling m.names)

  abbrev tail : Run N → Option PressFault
  tail m = first (unless (not (again m)) SpellingEntered ∷ [])

  abbrev checked : Stage → ℕ → List (Option PressFault)
  checked s n = unless (is s Open) WrongStage ∷ unless (ample (lent l)) ShortList ∷ unless (ltb n 1024) TooManyNames ∷ []

  split : (m : Run N) → Kept spelling m p → refusal spelling m (enter (lent l) x v) ≡ or (enter_gate p l) (tail m)
  split m k =
      let a = k.stage in
      let b = k.count in
      let same : first (checked p.stage p.count) ≡ first (checked m.stage (count m)) = λ i. first (checked (a i) (b i)) in
      first_behind (checked m.stage (count m)) (unless (not (again m)) SpellingEntered) ∙ ap (λ o. or o (tail m)) (sym same)

  -- the checks behind that of the stage, and behind that of the lengths
  abbrev of_lengths : List (Option PressFault)
  of_lengths = unless (ample (lent l)) ShortList ∷ unless (ltb p.count 1024) TooManyNames ∷ []

  abbrev of_count : List (Option PressFault)
  of_count = unless (ltb p.count 1024) TooManyNames ∷ []

  abbrev entered : Unit {0} → Outcome
  entered _ = answered.Entered

  refuses : (f : PressFault) → enter_gate p l ≡ Some f → EnterDone spelling x v p l (Err f) p l
  refuses f e = record { done = by_gate spelling (enter (lent l) x v) entered (enter_gate p l) (Some SpellingEntered) p l tail split f e; lists = refl }

  pub barred : (r : Result (Unit {0}) PressFault) {f : PressFault} → begun Enter p.stage (lent l) ≡ Err f → r ≡ Err f → EnterDone spelling x v p l r p l
  barred r {f} e q =
      let s = barred_by Enter p.stage (lent l) of_count f e in
      subst (λ r. EnterDone spelling x v p l r p l) (sym q) (refuses f s.0)

  module _ {t : Stage} (e : begun Enter p.stage (lent l) ≡ Ok t) where
    on_stage : belongs Enter p.stage ≡ true
    on_stage = (passed_by Enter p.stage (lent l) t e).belonged

    enough : ample (lent l) ≡ true
    enough = (passed_by Enter p.stage (lent l) t e).long

    pub full : 1024 ≤ p.count → EnterDone spelling x v p l (Err TooManyNames) p l
    full c = refuses TooManyNames (goes (belongs Enter p.stage) WrongStage of_lengths on_stage ∙ goes (ample (lent l)) ShortList of_count enough ∙ stops (ltb p.count 1024) TooManyNames [] (le-ltb p.count 1024 c))

    pub within : p.count < 1024 → p.count < length l.rows
    within c = omega (arith, (ample_all (lent l) enough).rows)

    module _ (c : p.count < 1024) where
      gate : enter_gate p l ≡ None
      gate = goes (belongs Enter p.stage) WrongStage of_lengths on_stage ∙ goes (ample (lent l)) ShortList of_count enough ∙ goes (ltb p.count 1024) TooManyNames [] (lt-ltb p.count 1024 c)

      abbrev looked : Bool
      looked = has bytes_eq (spelling x) (map (λ (y : Row N). spelling y.name) (take p.count l.rows))

      in_rows : (m : Run N) → Left spelling m p l → take p.count l.rows ≡ map as_row m.names
      in_rows m k = ap (λ n. take n l.rows) k.kept.count ∙ (k.held enough).names

      same_look : (m : Run N) → Left spelling m p l → again m ≡ looked
      same_look m k = ap (has bytes_eq (spelling x)) (sym (map-map (λ (y : Row N). spelling y.name) as_row m.names) ∙ ap (map (λ (y : Row N). spelling y.name)) (sym (in_rows m k)))

      pub twice : true ≡ looked → EnterDone spelling x v p l (Err SpellingEntered) p l
      twice t = record {
        done = by_lists spelling (enter (lent l) x v) entered (enter_gate p l) (Some SpellingEntered) p l tail split SpellingEntered l gate refl refl
            (λ m k. (stops (not (again m)) SpellingEntered [] (not_from_true (again m) (same_look m k ∙ sym t)), k.held));
        lists = refl;
      }

      module _ (small : v < 65536) (p' : Pressing N) (staged : p'.stage ≡ t) (counted : p'.count ≡ p.count + 1) (moved : Moved p p') where
        abbrev written : Row N
        written = record { name = x; setting = v }

        longer : (m : Run N) → Left spelling m p l → count m + 1 ≡ p.count + 1
        longer m k = ap (λ n. n + 1) (sym k.kept.count)

        kept : (m : Run N) → Left spelling m p l → Kept spelling (with_name m x v) p'
        kept m k = record {
          stage = staged ∙ (passed_by Enter p.stage (lent l) t e).led;
          count = counted ∙ sym (length_push m.names (x, v) ∙ longer m k);
          r = moved.r ∙ k.kept.r;
          seed = moved.seed ∙ k.kept.seed;
          level = moved.level ∙ k.kept.level;
          levels = λ b. absurd (omega arith);
        }

        held : (m : Run N) → Left spelling m p l → Held spelling (with_name m x v) (with_row p.count written l)
        held m k = held_open spelling (with_name m x v) refl (with_row p.count written l)
            (ap (λ n. take n (set l.rows p.count written)) (length_push m.names (x, v) ∙ longer m k)
            ∙ take_more_set l.rows p.count written (within c)
            ∙ ap (λ (ys : List (Row N)). ys ++ written ∷ []) (in_rows m k)
            ∙ sym (map_push as_row m.names (x, v)))

        pub accepted : false ≡ looked → EnterDone spelling x v p l (Ok tt) p' (with_row p.count written l)
        accepted f = record {
          done = by_acceptance spelling (enter (lent l) x v) entered (enter_gate p l) (Some SpellingEntered) p l tail split tt p' (with_row p.count written l) gate
              (ap (λ n. record { rows = n; tables = length l.tables; edges = length l.edges; vertices = length l.vertices; heap = length l.heap; ordered = length l.ordered; slots = length l.slots }) (length-set l.rows p.count written))
              small
              (λ m k. (goes (not (again m)) SpellingEntered [] (not_from_false (again m) (same_look m k ∙ sym f)), refl, kept m k, λ _. held m k));
          lists = refl;
        }

-- reopening
module _ {N : Type 0} (spelling : N → List ℕ) (p : Pressing N) where
  reopen_split : (m : Run N) → Kept spelling m p → refusal spelling m reopen ≡ or (reopen_gate p) None
  reopen_split m k = ap (λ s. first (unless (not (is s Sealed)) WrongStage ∷ [])) (sym k.stage) ∙ sym (or_none (reopen_gate p))

  abbrev reopened : Unit {0} → Outcome
  reopened _ = answered.Reopened

  pub reopen_done : {t : Stage} → next_stage Reopen p.stage ≡ Ok t → (p' : Pressing N) → p'.stage ≡ t → p'.count ≡ p.count → Moved p p' → ReopenDone spelling p (Ok tt) p'
  reopen_done {t} e p' staged counted moved = λ l.
      let s = stage_passed Reopen p.stage t e in
      by_acceptance spelling reopen reopened (reopen_gate p) None p l (λ _. None) reopen_split tt p' l
      (goes (belongs Reopen p.stage) WrongStage [] s.belonged) refl tt
      (λ m k. (
        refl,
        refl,
        record {
          stage = staged ∙ s.led;
          count = counted ∙ k.kept.count;
          r = moved.r ∙ k.kept.r;
          seed = moved.seed ∙ k.kept.seed;
          level = moved.level ∙ k.kept.level;
          levels = λ b. absurd (omega arith);
        },
        λ a. held_open spelling (led_to Open m) refl l (k.held a).names,
      ))
