-- Sealing, at each of its exits.
use Rattle.std.proofs.Common.{◌≡◌, ℕ, zero, suc, ◌+◌, ◌*◌, ◌<◌, ◌≤◌, Bool, true, false, ◌&&◌, eqb, leb, List, [], ◌∷◌, map, length, get_or, take, drop, Some, None, Ok, Err, Option, Result, sym, refl, ap, ◌∙◌, subst, inl, inr, arith, MatchOption}
use Rattle.std.proofs.lemmas.Bool.{eqb-true, eq-eqb, le-leb, and_parts, and_from, and_cases, both_ways}
use Rattle.std.proofs.lemmas.List.{get_or-take, take_all, take-map}
use Rattle.std.proofs.lemmas.Simd.{map-map}
use Rattle.std.proofs.lemmas.Option.{MatchOption-at_some, MatchOption-at_none}
use Rattle.std.proofs.ByRecursion.{All-get_or}
use Rattle.std.proofs.lemmas.List.FromFn.{get_or-map-range_with_len}
use Rattle.refusals.specs.Checks.{unless, or, first}
use Rattle.hashing.specs.Generator.{tables as tables_of}
use Rattle.hashing.specs.Triples.{triple}
use Rattle.runs.specs.declared.stage.Stage.{Stage}
use Rattle.runs.specs.declared.stage.Stage.TheVariants.{Ordered, Fitted, Sealed}
use Rattle.runs.specs.declared.fault.PressFault.{PressFault}
use Rattle.runs.specs.declared.fault.PressFault.TheVariants.{WrongStage, ShortList, ShortString}
use Rattle.runs.specs.declared.answer.Outcome.{Outcome}
use Rattle.runs.specs.declared.answer.Outcome.TheVariants as answered
use Rattle.runs.specs.Fitting.{slot, settles}
use Rattle.runs.specs.Plates.{Entry, slot_of}
use Rattle.runs.specs.Runs.{ample, Run, seal, is, rank, count, graph, vertex_order, earlier, led_to, refusal, string_length, entry_of, entered, pressed}
use Rattle.runs.specs.Laws.{PlateOf}
use Rattle.runs.proofs.Graph.{all_within}
use Rattle.runs.proofs.Standing.{AtStage, Stands, at, is_true, edges_of, length_graph}
use Rattle.runs.proofs.Sealing.{seals_soundly}
use Rattle.graph.specs.Chains.{nil}
use Rattle.leveling.specs.Level.{fills, filler}
use Rattle.sealing.specs.Sealing.{row_entry, Laid, seal_length, seal_fits, SealRefused, SealWritten}
use Rattle.pressing.specs.declared.press.Pressing.{Pressing}
use Rattle.pressing.specs.declared.stage.Event.TheVariants.{Seal}
use Rattle.pressing.specs.Memory.{Memory, lent}
use Rattle.pressing.specs.Stages.{belongs, begun}
use Rattle.pressing.specs.Left.{as_row, Kept, Held, Left, Done}
use Rattle.pressing.specs.Calls.{seal_gate, SealDone}
use Rattle.pressing.proofs.Room.{Ample, ample_all, first_found}
use Rattle.pressing.proofs.Steps.{stops, goes, or_none, passed_by, barred_by, run_stands, by_gate, by_acceptance}
use Rattle.pressing.proofs.EnterCall.{Moved}

err_ok : {T E X : Type 0} {x : T} {f : E} → Err f ≡ Ok x → X
err_ok e = absurd cc

-- what is read past the end of entries
abbrev no_entry : Entry
no_entry = record { spelling = []; setting = 0 }

-- 1. the plate of a run at stage Fitted stands in its lists

module _ {N : Type 0} (spelling : N → List ℕ) (m : Run N) (h : Stands spelling m) (a : AtStage spelling Fitted m) (l : Memory N) (room : Ample (lent l)) (held : Held spelling m l) (high : rank Ordered ≤ rank m.stage) (plate : PlateOf spelling m (pressed spelling m)) where
  -- the slot of the name at a place, by its triple and by its spelling
  slot_there : (n : ℕ) (xs : List (N × ℕ)) (i : ℕ) → i < length xs →
      slot n m.values (get_or (map (λ (x : N × ℕ). triple (tables_of m.seed) n m.r (spelling x.0)) xs) i nil) ≡
      slot n m.values (triple (tables_of m.seed) n m.r (get_or (map (entry_of spelling) xs) i no_entry).spelling)
  slot_there n [] i b = absurd (omega arith)
  slot_there n (x ∷ xs) zero b = refl
  slot_there n (x ∷ xs) (suc i) b = slot_there n xs i (omega arith)

  -- the slot that the plate gives the name at a place
  own : (i : ℕ) → i < count m → slot (count m) m.values (get_or (graph spelling m) i nil) ≡ slot_of (pressed spelling m) (get_or (entered spelling m) i no_entry).spelling
  own i b = slot_there (count m) m.names i b ∙
      ap (λ n. slot n m.values (triple (tables_of m.seed) n m.r (get_or (entered spelling m) i no_entry).spelling)) (sym plate.counts)

  all_fitted : earlier spelling m ≡ vertex_order spelling m
  all_fitted = take_all m.level (vertex_order spelling m) (omega (arith, a.2))

  settled : (i : ℕ) → i < count m → settles (earlier spelling m) (get_or (graph spelling m) i nil) ≡ true
  settled i b = ap (λ vs. settles vs (get_or (graph spelling m) i nil)) all_fitted ∙
      All-get_or (λ e. settles (vertex_order spelling m) e ≡ true) (graph spelling m) i nil (omega (arith, length_graph spelling m))
      (all_within (graph spelling m) m.r (edges_of spelling m a.0.some_vertex))

  abbrev filling : ℕ → ℕ → Bool
  filling k i = fills (graph spelling m) (count m) m.values (earlier spelling m) k i

  -- some row fills each slot, and its entry is the slot's record
  row_of : (k : ℕ) → k < count m →
      (i : ℕ) × (i < count m) × (filler (graph spelling m) (count m) m.values (earlier spelling m) k ≡ Some i) × (get_or (entered spelling m) i no_entry ≡ get_or (pressed spelling m).records k no_entry)
  row_of k b =
      let low : k < length (pressed spelling m).records = omega (arith, plate.counts) in
      let p = plate.holds_only k no_entry low in
      let there : slot (count m) m.values (get_or (graph spelling m) p.0 nil) ≡ k = own p.0 p.1 ∙ ap (λ (e : Entry). slot_of (pressed spelling m) e.spelling) (sym p.2) ∙ plate.lawful.in_slot k no_entry low in
      let fits : filling k p.0 ≡ true = and_from (settles (earlier spelling m) (get_or (graph spelling m) p.0 nil)) (eqb (slot (count m) m.values (get_or (graph spelling m) p.0 nil)) k) (settled p.0 p.1) (eq-eqb (slot (count m) m.values (get_or (graph spelling m) p.0 nil)) k there) in
      let q = first_found (filling k) (length (graph spelling m)) 0 p.0 (omega arith) (omega (arith, p.1, length_graph spelling m)) fits in
      let inside : q.0 < count m = omega (arith, q.1, length_graph spelling m) in
      let here : slot (count m) m.values (get_or (graph spelling m) q.0 nil) ≡ k = eqb-true (slot (count m) m.values (get_or (graph spelling m) q.0 nil)) k (and_parts (settles (earlier spelling m) (get_or (graph spelling m) q.0 nil)) (eqb (slot (count m) m.values (get_or (graph spelling m) q.0 nil)) k) q.3).1 in
      (q.0, inside, q.2, sym (plate.holds q.0 no_entry inside) ∙ ap (λ j. get_or (pressed spelling m).records j no_entry) (sym (own q.0 inside) ∙ here))

  -- the entries of the rows are those of the names
  entry_at : (i : ℕ) → i < count m → get_or (map (row_entry spelling) l.rows) i no_entry ≡ get_or (entered spelling m) i no_entry
  entry_at i b =
      sym (get_or-take (count m) (map (row_entry spelling) l.rows) i no_entry b) ∙
      ap (λ (xs : List Entry). get_or xs i no_entry) (take-map (row_entry spelling) (count m) l.rows ∙ ap (map (row_entry spelling)) held.names ∙ map-map (row_entry spelling) as_row m.names)

  slot_at : (k : ℕ) → k < count m → get_or l.slots k None ≡ filler (graph spelling m) (count m) m.values (earlier spelling m) k
  slot_at k b =
      sym (get_or-take (count m) l.slots k None b) ∙ ap (λ (xs : List (Option ℕ)). get_or xs k None) (held.ordered high).slots ∙
      get_or-map-range_with_len (filler (graph spelling m) (count m) m.values (earlier spelling m)) 0 (count m) k k None b (omega arith)

  pub laid : Laid spelling (pressed spelling m) (count m) m.r m.seed l.rows l.vertices l.slots
  laid = record {
    same_n = plate.counts;
    same_r = refl;
    same_seed = refl;
    value_count = plate.lawful.value_count;
    values = (held.ordered high).values;
    record_of = λ k b.
        let q = row_of k b in
        (q.0, omega (arith, q.1, h.few, room.rows), slot_at k b ∙ q.2, entry_at q.0 q.1 ∙ q.3);
  }

-- 2. the exits

module _ {N : Type 0} (spelling : N → List ℕ) (kind : ℕ) (p : Pressing N) (l : Memory N) (string : List ℕ) where
  abbrev checked : Stage → ℕ → ℕ → List (Option PressFault)
  checked s r n = unless (is s Fitted) WrongStage ∷ unless (ample (lent l)) ShortList ∷ unless (leb (21 + 4 * r + 22 * n) (length string)) ShortString ∷ []

  abbrev gate : Option PressFault
  gate = seal_gate p l (length string)

  split : (m : Run N) → Kept spelling m p → refusal spelling m (seal (lent l) (length string)) ≡ or gate None
  split m k =
      let a = k.stage in
      let b = k.r in
      let d = k.count in
      let same : first (checked p.stage p.r p.count) ≡ first (checked m.stage m.r (count m)) = λ i. first (checked (a i) (b i) (d i)) in
      sym same ∙ sym (or_none gate)

  -- the checks behind that of the lengths, and behind that of the stage
  abbrev of_string : List (Option PressFault)
  of_string = unless (leb (21 + 4 * p.r + 22 * p.count) (length string)) ShortString ∷ []

  abbrev of_lengths : List (Option PressFault)
  of_lengths = unless (ample (lent l)) ShortList ∷ of_string

  abbrev sealed_answer : ℕ → Outcome
  sealed_answer k = answered.Sealed k

  refuses : (f : PressFault) → gate ≡ Some f → SealDone spelling kind p l string (Err f) p l string
  refuses f e = record {
    done = by_gate spelling (seal (lent l) (length string)) sealed_answer gate None p l (λ _. None) split f e;
    lists = refl;
    exact = λ m k j o. err_ok o;
    behind = λ j o. err_ok o;
    kept = λ _. refl;
    string_long = refl;
  }

  pub barred : (r : Result ℕ PressFault) {f : PressFault} → begun Seal p.stage (lent l) ≡ Err f → r ≡ Err f → SealDone spelling kind p l string r p l string
  barred r {f} e q =
      let s = barred_by Seal p.stage (lent l) of_string f e in
      subst (λ r. SealDone spelling kind p l string r p l string) (sym q) (refuses f s.0)

  module _ {t : Stage} (e : begun Seal p.stage (lent l) ≡ Ok t) where
    on_stage : belongs Seal p.stage ≡ true
    on_stage = (passed_by Seal p.stage (lent l) t e).belonged

    enough : ample (lent l) ≡ true
    enough = (passed_by Seal p.stage (lent l) t e).long

    module _ {n r seed : ℕ} (same_n : n ≡ p.count) (same_r : r ≡ p.r) (same_seed : seed ≡ p.seed) (string' : List ℕ) where
      abbrev fits : Bool
      fits = seal_fits n r (length string) (length l.vertices) (length l.slots)

      abbrev Wrote : ℕ → Type 0
      Wrote k = SealWritten fits kind spelling n r seed l.rows l.vertices l.slots string string' k

      -- what the writer of plates promises
      abbrev Written : Option ℕ → Type 0
      Written o = MatchOption o (SealRefused fits string string') Wrote

      room : Ample (lent l)
      room = ample_all (lent l) enough

      lists_fit : (leb (2 * r) (length l.vertices) && leb n (length l.slots)) ≡ true
      lists_fit = and_from (leb (2 * r) (length l.vertices)) (leb n (length l.slots))
          (le-leb (2 * r) (length l.vertices) (omega (arith, room.vertices, p.few_vertices)))
          (le-leb n (length l.slots) (omega (arith, room.slots, p.few_names)))

      same_long : leb (seal_length n r) (length string) ≡ leb (seal_length p.count p.r) (length string)
      same_long = λ i. leb (seal_length (same_n i) (same_r i)) (length string)

      no_room : fits ≡ false → leb (seal_length p.count p.r) (length string) ≡ false
      no_room f = elim (and_cases (leb (seal_length n r) (length string)) (leb (2 * r) (length l.vertices) && leb n (length l.slots)) f) [
        | inl q ↦ sym same_long ∙ q
        | inr q ↦ absurd (both_ways (leb (2 * r) (length l.vertices) && leb n (length l.slots)) q lists_fit)
      ]

      pub too_short : (o : Option ℕ) → o ≡ None → Written o → (x : Result ℕ PressFault) → x ≡ Err ShortString → SealDone spelling kind p l string x p l string'
      too_short o none w x q =
          let s = MatchOption-at_none (SealRefused fits string string') Wrote none w in
          subst (λ y. SealDone spelling kind p l string y p l string') (sym q) (subst (λ y. SealDone spelling kind p l string (Err ShortString) p l y) (sym s.same)
          (refuses ShortString (
          goes (belongs Seal p.stage) WrongStage of_lengths on_stage ∙ goes (ample (lent l)) ShortList of_string enough ∙
          stops (leb (seal_length p.count p.r) (length string)) ShortString [] (no_room s.short)
          )))

      module _ (k : ℕ) (w : Wrote k) (p' : Pressing N) (staged : p'.stage ≡ t) (counted : p'.count ≡ p.count) (same_levels : p'.levels ≡ p.levels) (moved : Moved p p') where
        open_gate : gate ≡ None
        open_gate =
            goes (belongs Seal p.stage) WrongStage of_lengths on_stage ∙ goes (ample (lent l)) ShortList of_string enough ∙
            goes (leb (seal_length p.count p.r) (length string)) ShortString []
            (sym same_long ∙ (and_parts (leb (seal_length n r) (length string)) (leb (2 * r) (length l.vertices) && leb n (length l.slots)) w.long).0)

        at_fitted : (m : Run N) → Kept spelling m p → m.stage ≡ Fitted
        at_fitted m q = is_true m.stage Fitted (ap (λ s. is s Fitted) (sym q.stage) ∙ on_stage)

        high : (m : Run N) → Kept spelling m p → rank m.stage ≡ 3
        high m q = ap rank (at_fitted m q)

        kept : (m : Run N) → Kept spelling m p → Kept spelling (led_to Sealed m) p'
        kept m q = record {
          stage = staged ∙ (passed_by Seal p.stage (lent l) t e).led;
          count = counted ∙ q.count;
          r = moved.r ∙ q.r;
          seed = moved.seed ∙ q.seed;
          level = moved.level ∙ q.level;
          levels = λ _. same_levels ∙ q.levels (omega (arith, high m q));
        }

        held : (m : Run N) → Kept spelling m p → Held spelling m l → Held spelling (led_to Sealed m) l
        held m q x =
            let a = x.mapped (omega (arith, high m q)) in
            let b = x.ordered (omega (arith, high m q)) in
            record {
              names = x.names;
              mapped = λ _. record { tables = a.tables; graph = a.graph };
              ordered = λ _. record { order = b.order; values = b.values; slots = b.slots };
            }

        same_answer : (m : Run N) → Kept spelling m p → k ≡ string_length m
        same_answer m q = w.whole ∙ (let a = same_n ∙ q.count in let b = same_r ∙ q.r in λ i. seal_length (a i) (b i))

        sealed_done : Done spelling (seal (lent l) (length string)) sealed_answer gate None p l (Ok k) p' l
        sealed_done = by_acceptance spelling (seal (lent l) (length string)) sealed_answer gate None p l (λ _. None) split k p' l open_gate refl tt
            (λ m q. (refl, ap sealed_answer (same_answer m q.kept), kept m q.kept, λ a. held m q.kept (q.held a)))

        laid_here : (m : Run N) → Left spelling m p l → Laid spelling (pressed spelling m) n r seed l.rows l.vertices l.slots
        laid_here m q =
            let s = run_stands spelling m q.run in
            let plate = (seals_soundly spelling m s (lent l) (length string) k (sym (sealed_done.told m q).0)).0 in
            let x = laid spelling m s (at spelling m Fitted s (at_fitted m q.kept)) l room (q.held enough) (omega (arith, high m q.kept)) plate in
            let a = sym (same_n ∙ q.kept.count) in
            let b = sym (same_r ∙ q.kept.r) in
            let d = sym (same_seed ∙ q.kept.seed) in
            subst (λ (y : Type 0). y) (λ i. Laid spelling (pressed spelling m) (a i) (b i) (d i) l.rows l.vertices l.slots) x

        is_whole : (j : ℕ) → ◌≡◌ {A = Result ℕ PressFault} (Ok k) (Ok j) → j ≡ seal_length n r
        is_whole j o = sym (let z : k ≡ j = cc in z) ∙ w.whole

        sealed_so : SealDone spelling kind p l string (Ok k) p' l string'
        sealed_so = record {
          done = sealed_done;
          lists = refl;
          exact = λ m q j o. ap (λ x. take x string') (is_whole j o) ∙ w.exact (pressed spelling m) (laid_here m q);
          behind = λ j o. ap (λ x. drop x string') (is_whole j o) ∙ w.behind ∙ sym (ap (λ x. drop x string) (is_whole j o));
          kept = λ x. absurd (both_ways false refl x);
          string_long = w.same_length;
        }

      pub accepted : (o : Option ℕ) {k : ℕ} → o ≡ Some k → Written o → (p' : Pressing N) → p'.stage ≡ t → p'.count ≡ p.count → p'.levels ≡ p.levels → Moved p p' →
          SealDone spelling kind p l string (Ok k) p' l string'
      accepted o {k} some w = sealed_so k (MatchOption-at_some (SealRefused fits string string') Wrote k some w)
