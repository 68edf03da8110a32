-- Fitting a level, at each of its exits.
use Rattle.std.proofs.Common.{◌≡◌, ℕ, suc, ◌+◌, ◌*◌, ◌<◌, ◌≤◌, Bool, true, cond, ◌&&◌, eqb, ltb, leb, List, [], ◌∷◌, length, get_or, set, is_some, is_some, Some, None, Ok, Err, Option, Result, sym, refl, ap, ◌∙◌, subst, add-one, arith, MatchOption}
use Rattle.std.proofs.lemmas.Bool.{eqb-true, eq-eqb, ne_eqb, le-leb, leb-true, lt-ltb, and_parts, and_from}
use Rattle.std.proofs.lemmas.List.{length-set}
use Rattle.std.proofs.lemmas.Option.{MatchOption-at_some, MatchOption-at_none}
use Rattle.refusals.specs.Checks.{unless, or, first}
use Rattle.hashing.specs.Triples.{Triple}
use Rattle.ways.specs.Permutation.{Meaning, Permutes}
use Rattle.runs.specs.declared.stage.Stage.{Stage}
use Rattle.runs.specs.declared.stage.Stage.TheVariants.{Ordered, Fitted}
use Rattle.runs.specs.declared.fault.PressFault.{PressFault}
use Rattle.runs.specs.declared.fault.PressFault.TheVariants.{WrongStage, ShortList, WaySize, Unfit}
use Rattle.runs.specs.Lists.{among}
use Rattle.runs.specs.Fitting.{slot, settles}
use Rattle.runs.specs.Runs.{ample, Run, fit, is, rank, count, graph, vertex_order, earlier, fit_found, with_level, fit_answer, refusal}
use Rattle.runs.proofs.Standing.{AtStage, at, is_true, length_graph}
use Rattle.runs.proofs.Filling.{filled_by_settled}
use Rattle.graph.specs.declared.rows.Vertex.{Vertex}
use Rattle.graph.specs.Chains.{nil, row}
use Rattle.leveling.specs.Level.{fills, filler, level_fits, valued, Unchanged, LevelGiven, LevelHeld, LevelNext, LevelFitted}
use Rattle.pressing.specs.declared.answer.Fit.{Fit as FitAnswer}
use Rattle.pressing.specs.declared.press.Pressing.{Pressing}
use Rattle.pressing.specs.declared.stage.Event.TheVariants.{Fit}
use Rattle.pressing.specs.Memory.{Memory, memory, lent}
use Rattle.pressing.specs.Stages.{begun}
use Rattle.pressing.specs.Left.{IsRun, Kept, Held, Left}
use Rattle.pressing.specs.Calls.{fit_gate, fitted, FitWrote, FitDone}
use Rattle.pressing.proofs.Room.{ample_all, same_test, first_found, first_passes}
use Rattle.pressing.proofs.Steps.{stops, goes, first_behind, passed_by, barred_by, run_stands, by_gate, by_lists, by_acceptance}

-- lengths that are long enough for the fit of a level
all_fit : (n r level edges vertices ordered slots : ℕ) → 1 ≤ n → n ≤ 1024 → n ≤ edges → r ≤ 1024 → 2 * r ≤ vertices → level < ordered → n ≤ slots → level_fits n r level edges vertices ordered slots ≡ true
all_fit n r level edges vertices ordered slots a b c d e f g =
    and_from (leb 1 n) (leb n 1024 && (leb n edges && (leb r 1024 && (leb (2 * r) vertices && (ltb level ordered && leb n slots))))) (le-leb 1 n a)
    (and_from (leb n 1024) (leb n edges && (leb r 1024 && (leb (2 * r) vertices && (ltb level ordered && leb n slots)))) (le-leb n 1024 b)
    (and_from (leb n edges) (leb r 1024 && (leb (2 * r) vertices && (ltb level ordered && leb n slots))) (le-leb n edges c)
    (and_from (leb r 1024) (leb (2 * r) vertices && (ltb level ordered && leb n slots)) (le-leb r 1024 d)
    (and_from (leb (2 * r) vertices) (ltb level ordered && leb n slots) (le-leb (2 * r) vertices e)
    (and_from (ltb level ordered) (leb n slots) (lt-ltb level ordered f) (le-leb n slots g))))))

-- 1. what the fit of a level is given, and what the run becomes by it

module _ {N : Type 0} (spelling : N → List ℕ) (m : Run N) (l : Memory N) where
  abbrev LevelReady : Type 0
  LevelReady = LevelHeld (graph spelling m) m.r (count m) m.values m.filled m.level l.edges l.vertices l.ordered l.slots

  module _ (run : IsRun spelling m) (ordered : m.stage ≡ Ordered) where
    standing : AtStage spelling Ordered m
    standing = at spelling m Ordered (run_stands spelling m run) ordered

    high : rank Ordered ≤ rank m.stage
    high = omega (arith, ap rank ordered)

    abbrev filling : ℕ → ℕ → Bool
    filling s i = fills (graph spelling m) (count m) m.values (earlier spelling m) s i

    abbrev slot_of_name : ℕ → ℕ
    slot_of_name i = slot (count m) m.values (get_or (graph spelling m) i nil)

    abbrev settled : ℕ → Bool
    settled i = settles (earlier spelling m) (get_or (graph spelling m) i nil)

    -- a slot is filled exactly if a settled name has it
    filled_at : (s : ℕ) → among s m.filled ≡ is_some (filler (graph spelling m) (count m) m.values (earlier spelling m) s)
    filled_at s =
        let law = filled_by_settled spelling m (run_stands spelling m run) high in
        same_test (among s m.filled) (is_some (filler (graph spelling m) (count m) m.values (earlier spelling m) s))
        (λ t.
        let p = law.from_name s t in
        let fits : filling s p.0 ≡ true = and_from (settled p.0) (eqb (slot_of_name p.0) s) p.2 (eq-eqb (slot_of_name p.0) s p.3) in
        ap is_some (first_found (filling s) (length (graph spelling m)) 0 p.0 (omega arith) (omega (arith, p.1, length_graph spelling m)) fits).2)
        (λ t.
        let p = first_passes (filling s) (length (graph spelling m)) 0 t in
        let q = and_parts (settled p.0) (eqb (slot_of_name p.0) s) p.2 in
        ap (λ x. among x m.filled) (sym (eqb-true (slot_of_name p.0) s q.1)) ∙ law.of_name p.0 (omega (arith, p.1, length_graph spelling m)) q.0)

    pub ready : Held spelling m l → LevelReady
    ready held = record {
      counted = length_graph spelling m;
      graph = (held.ordered high).order;
      inside = standing.2;
      value_count = standing.1.size;
      value_at = (held.ordered high).values;
      rows = (held.ordered high).slots;
      filled_at = λ s _. filled_at s;
    }

-- the lists with other vertices and slots
abbrev pub with_fit : {N : Type 0} → Memory N → List Vertex → List (Option ℕ) → Memory N
with_fit l vertices slots = memory l.rows l.tables l.edges vertices l.heap l.ordered slots

module _ {N : Type 0} (spelling : N → List ℕ) (m : Run N) (l : Memory N) (vertices : List Vertex) (slots : List (Option ℕ)) where
  pub fitted_held : rank Ordered ≤ rank m.stage → Held spelling m l → (x tries : ℕ) →
      LevelNext (graph spelling m) m.r (count m) m.values m.filled m.level x l.edges vertices l.ordered slots →
      Held spelling (with_level spelling m (Some (x, tries))) (with_fit l vertices slots)
  fitted_held high held x tries next = record {
    names = held.names;
    mapped = λ _. record { tables = (held.mapped (omega arith)).tables; graph = next.graph.graph };
    ordered = λ _. record { order = next.graph; values = next.value_at; slots = rw add-one at next.rows };
  }

-- 2. the exits

module _ {N : Type 0} (spelling : N → List ℕ) (w : Meaning) (p : Pressing N) (l : Memory N) where
  abbrev tail : Run N → Option PressFault
  tail m = first (unless (is_some (fit_found spelling m w)) (Unfit m.level) ∷ [])

  abbrev checked : Stage → ℕ → List (Option PressFault)
  checked s n = unless (is s Ordered) WrongStage ∷ unless (ample (lent l)) ShortList ∷ unless (eqb w.size n) WaySize ∷ []

  abbrev gate : Option PressFault
  gate = fit_gate p l w.size

  split : (m : Run N) → Kept spelling m p → refusal spelling m (fit (lent l) w) ≡ or gate (tail m)
  split m k =
      let a = k.stage in
      let b = k.count in
      let same : first (checked p.stage p.count) ≡ first (checked m.stage (count m)) = λ i. first (checked (a i) (b i)) in
      first_behind (checked m.stage (count m)) (unless (is_some (fit_found spelling m w)) (Unfit m.level)) ∙ ap (λ o. or o (tail m)) (sym same)

  -- the checks behind that of the lengths, and behind that of the stage
  abbrev of_size : List (Option PressFault)
  of_size = unless (eqb w.size p.count) WaySize ∷ []

  abbrev of_lengths : List (Option PressFault)
  of_lengths = unless (ample (lent l)) ShortList ∷ of_size

  abbrev unfit : Option PressFault
  unfit = Some (Unfit p.level)

  refuses : (f : PressFault) → gate ≡ Some f → FitDone spelling w p l (Err f) p l
  refuses f e = record { done = by_gate spelling (fit (lent l) w) fitted gate unfit p l tail split f e; lists = refl }

  pub barred : (r : Result FitAnswer PressFault) (last : Bool) {f : PressFault} → begun (Fit last) p.stage (lent l) ≡ Err f → r ≡ Err f → FitDone spelling w p l r p l
  barred r last {f} e q =
      let s = barred_by (Fit last) p.stage (lent l) of_size f e in
      subst (λ r. FitDone spelling w p l r p l) (sym q) (refuses f s.0)

  module _ (last : Bool) {t : Stage} (e : begun (Fit last) p.stage (lent l) ≡ Ok t) where
    on_stage : is p.stage Ordered ≡ true
    on_stage = (passed_by (Fit last) p.stage (lent l) t e).belonged

    enough : ample (lent l) ≡ true
    enough = (passed_by (Fit last) p.stage (lent l) t e).long

    at_ordered : (m : Run N) → Kept spelling m p → m.stage ≡ Ordered
    at_ordered m k = is_true m.stage Ordered (ap (λ s. is s Ordered) (sym k.stage) ∙ on_stage)

    levels_are : (m : Run N) → Kept spelling m p → p.levels ≡ length (vertex_order spelling m)
    levels_are m k = k.levels (omega (arith, ap rank (at_ordered m k)))

    pub other_size : (w.size ≡ p.count → ⊥) → FitDone spelling w p l (Err WaySize) p l
    other_size ne = refuses WaySize (
        goes (is p.stage Ordered) WrongStage of_lengths on_stage ∙ goes (ample (lent l)) ShortList of_size enough ∙ stops (eqb w.size p.count) WaySize [] (ne_eqb w.size p.count ne)
        )

    module _ (sized : w.size ≡ p.count) where
      open_gate : gate ≡ None
      open_gate =
          goes (is p.stage Ordered) WrongStage of_lengths on_stage ∙ goes (ample (lent l)) ShortList of_size enough ∙
          goes (eqb w.size p.count) WaySize [] (eq-eqb w.size p.count sized)

      -- no run leaves a pressing so
      pub none_left : p.levels ≤ p.level → FitDone spelling w p l (Err (Unfit p.level)) p l
      none_left b = record {
        done = by_lists spelling (fit (lent l) w) fitted gate unfit p l tail split (Unfit p.level) l open_gate refl refl
            (λ m k. absurd (omega (arith, (standing spelling m l k.run (at_ordered m k.kept)).2, levels_are m k.kept, k.kept.level)));
        lists = refl;
      }

      module _ (b : p.level < p.levels) {r level : ℕ} (same_r : r ≡ p.r) (same_level : level ≡ p.level) (vertices' : List Vertex) (slots' : List (Option ℕ)) (o : Option (ℕ × ℕ)) where
        abbrev l' : Memory N
        l' = with_fit l vertices' slots'

        -- what the fit of a level promises
        abbrev FittedAt : ℕ → ℕ → ℕ → Type 0
        FittedAt n r level =
            (es : List Triple) (values filled : List ℕ) → level_fits n r level (length l.edges) (length l.vertices) (length l.ordered) (length l.slots) ≡ true → w.size ≡ n →
            LevelHeld es r n values filled level l.edges l.vertices l.ordered l.slots → LevelFitted w es r n values filled level l.edges vertices' l.ordered slots' o

        abbrev Gave : ℕ × ℕ → Type 0
        Gave x = LevelGiven p.count (2 * r) (get_or l.ordered level 0) x.0 l.vertices vertices' l.slots slots'

        abbrev Given : Type 0
        Given = MatchOption o (Unchanged l.vertices vertices' l.slots slots') Gave

        module _ (told : FittedAt p.count r level) where
          fits : (m : Run N) → Left spelling m p l → level_fits (count m) m.r m.level (length l.edges) (length l.vertices) (length l.ordered) (length l.slots) ≡ true
          fits m k =
              let room = ample_all (lent l) enough in
              let ranges = (standing spelling m l k.run (at_ordered m k.kept)).0 in
              let few = (run_stands spelling m k.run).few in
              all_fit (count m) m.r m.level (length l.edges) (length l.vertices) (length l.ordered) (length l.slots)
              ranges.some_name few (omega (arith, room.edges)) ranges.few_vertices (omega (arith, room.vertices, ranges.few_vertices))
              (omega (arith, room.ordered, k.kept.level, p.few_levels)) (omega (arith, room.slots))

          told_of : (m : Run N) → Left spelling m p l → LevelFitted w (graph spelling m) m.r (count m) m.values m.filled m.level l.edges vertices' l.ordered slots' o
          told_of m k =
              let a = k.kept.count in
              let b = same_r ∙ k.kept.r in
              let d = same_level ∙ k.kept.level in
              let there = subst (λ (y : Type 0). y) (λ i. FittedAt (a i) (b i) (d i)) told in
              there (graph spelling m) m.values m.filled (fits m k) (sized ∙ a) (ready spelling m l k.run (at_ordered m k.kept) (k.held enough))

          pub unfound : o ≡ None → Given → (x : Result FitAnswer PressFault) → x ≡ Err (Unfit p.level) → FitDone spelling w p l x p l'
          unfound none given x q =
              let s = MatchOption-at_none (Unchanged l.vertices vertices' l.slots slots') Gave none given in
              let same : l' ≡ l = let a = s.vertices_same in let b = s.slots_same in λ i. with_fit l (a i) (b i) in
              subst (λ y. FitDone spelling w p l y p l') (sym q) (subst (λ y. FitDone spelling w p l (Err (Unfit p.level)) p y) (sym same) (record {
                done = by_lists spelling (fit (lent l) w) fitted gate unfit p l tail split (Unfit p.level) l open_gate refl refl
                    (λ m k. (
                      stops (is_some (fit_found spelling m w)) (Unfit m.level) [] (ap is_some (sym (told_of m k).answer ∙ none)) ∙ ap (λ n. Some (Unfit n)) (sym k.kept.level),
                      k.held,
                    ));
                lists = refl;
              }))

          module _ (law : Permutes w) (slots_long : length slots' ≡ length l.slots) (last_is : last ≡ leb p.levels (p.level + 1)) {x tries : ℕ} (some : o ≡ Some (x, tries)) (given : Given)
              (p' : Pressing N) (staged : p'.stage ≡ t) (counted : p'.count ≡ p.count) (same_r' : p'.r ≡ p.r) (same_seed : p'.seed ≡ p.seed) (next_level : p'.level ≡ p.level + 1) (same_levels : p'.levels ≡ p.levels) where
            gave : Gave (x, tries)
            gave = MatchOption-at_some (Unchanged l.vertices vertices' l.slots slots') Gave (x, tries) some given

            abbrev answer : FitAnswer
            answer = record { rotation = x; tries = tries }

            found_is : (m : Run N) → Left spelling m p l → fit_found spelling m w ≡ Some (x, tries)
            found_is m k = sym (told_of m k).answer ∙ some

            is_last : (m : Run N) → Left spelling m p l → last ≡ eqb (suc m.level) (length (vertex_order spelling m))
            is_last m k =
                let same = levels_are m k.kept in
                let level_is = k.kept.level in
                last_is ∙ same_test (leb p.levels (p.level + 1)) (eqb (suc m.level) (length (vertex_order spelling m)))
                (λ y. eq-eqb (suc m.level) (length (vertex_order spelling m)) (omega (arith, leb-true p.levels (p.level + 1) y)))
                (λ y. le-leb p.levels (p.level + 1) (omega (arith, eqb-true (suc m.level) (length (vertex_order spelling m)) y)))

            kept : (m : Run N) → Left spelling m p l → Kept spelling (with_level spelling m (Some (x, tries))) p'
            kept m k = record {
              stage = staged ∙ (passed_by (Fit last) p.stage (lent l) t e).led ∙ ap (λ c. cond c Fitted Ordered) (is_last m k);
              count = counted ∙ k.kept.count;
              r = same_r' ∙ k.kept.r;
              seed = same_seed ∙ k.kept.seed;
              level = next_level ∙ (let level_is = k.kept.level in let y : p.level + 1 ≡ suc m.level = omega arith in y);
              levels = λ _. same_levels ∙ levels_are m k.kept;
            }

            held : (m : Run N) → Left spelling m p l → Held spelling (with_level spelling m (Some (x, tries))) l'
            held m k = fitted_held spelling m l vertices' slots' (omega (arith, ap rank (at_ordered m k.kept))) (k.held enough) x tries ((told_of m k).next x tries some)

            long : lent l' ≡ lent l
            long =
                let a = ap length gave.given ∙ length-set l.vertices (get_or l.ordered level 0) (valued x (row l.vertices (get_or l.ordered level 0))) in
                let b = slots_long in
                λ i. record { rows = length l.rows; tables = length l.tables; edges = length l.edges; vertices = a i; heap = length l.heap; ordered = length l.ordered; slots = b i }

            wrote : FitWrote p.count p.r (get_or l.ordered p.level 0) x l l'
            wrote =
                let v : get_or l.ordered level 0 ≡ get_or l.ordered p.level 0 = ap (λ i. get_or l.ordered i 0) same_level in
                record {
                  rows = refl;
                  tables = refl;
                  edges = refl;
                  one_of = omega (arith, gave.low);
                  vertices = gave.given ∙ ap (λ u. set l.vertices u (valued x (row l.vertices u))) v;
                  heap = refl;
                  ordered = refl;
                  slots_past = gave.slots_past;
                }

            pub accepted : FitDone spelling w p l (Ok answer) p' l'
            accepted = record {
              done = by_acceptance spelling (fit (lent l) w) fitted gate unfit p l tail split answer p' l' open_gate long law
                  (λ m k. (
                    goes (is_some (fit_found spelling m w)) (Unfit m.level) [] (ap is_some (found_is m k)),
                    sym (ap fit_answer (found_is m k)),
                    subst (λ y. Kept spelling (with_level spelling m y) p') (sym (found_is m k)) (kept m k),
                    λ _. subst (λ y. Held spelling (with_level spelling m y) l') (sym (found_is m k)) (held m k),
                  ));
              lists = wrote;
            }
