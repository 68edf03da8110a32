-- Mapping, at each of its exits.
use Rattle.std.proofs.Common.{◌≡◌, ℕ, Bool, true, false, not, ◌&&◌, ltb, leb, ◌⊎◌, List, [], ◌∷◌, map, length, take, drop, Some, None, Ok, Err, Option, Result, sym, refl, ap, ◌∙◌, subst, inl, inr, arith}
use Rattle.std.proofs.lemmas.List.{take-append-le, take_all}
use Rattle.std.proofs.lemmas.Simd.{map-map}
use Rattle.std.proofs.lemmas.Bool.{le-leb, both_ways, not_from_true, not_from_false}
use Rattle.refusals.specs.Checks.{unless, or, first, with_value}
use Rattle.names.specs.Spellings.{in_range}
use Rattle.hashing.specs.declared.fault.HashFault.{HashFault}
use Rattle.hashing.specs.declared.fault.HashFault.TheVariants as hash
use Rattle.hashing.specs.Faults.{seed_fault, sizes_fault}
use Rattle.hashing.specs.Generator.{tables as tables_of}
use Rattle.hashing.specs.Triples.{Triple, triple}
use Rattle.hashing.proofs.Drawing.{length_tables}
use Rattle.graph.specs.declared.rows.Row.{Row}
use Rattle.graph.specs.declared.rows.Edge.{Edge}
use Rattle.graph.specs.declared.rows.Vertex.{Vertex}
use Rattle.graph.specs.Chains.{Graph, clashes}
use Rattle.graph.specs.Mapping.{row_triple, row_triples}
use Rattle.runs.specs.declared.stage.Stage.{Stage}
use Rattle.runs.specs.declared.stage.Stage.TheVariants.{Open}
use Rattle.runs.specs.declared.fault.PressFault.{PressFault}
use Rattle.runs.specs.declared.fault.PressFault.TheVariants.{WrongStage, ShortList, NoName, VertexCount, Seed, Clash}
use Rattle.runs.specs.declared.answer.Outcome.{Outcome}
use Rattle.runs.specs.declared.answer.Outcome.TheVariants as answered
use Rattle.runs.specs.Faults.{of_hashing}
use Rattle.runs.specs.Lists.{repeats}
use Rattle.runs.specs.Runs.{ample, Run, map_to, is, count, triples, same_triple, with_map, refusal}
use Rattle.runs.proofs.Standing.{is_true}
use Rattle.pressing.specs.declared.press.Pressing.{Pressing}
use Rattle.pressing.specs.declared.stage.Event.TheVariants.{Map}
use Rattle.pressing.specs.Memory.{Memory, lent}
use Rattle.pressing.specs.Stages.{belongs, begun}
use Rattle.pressing.specs.Left.{as_row, Kept, Held, Left}
use Rattle.pressing.specs.Work.{MapWorked}
use Rattle.pressing.specs.Calls.{map_gate, MapWrote, MapDone}
use Rattle.pressing.proofs.Steps.{stops, goes, first_behind, passed_by, barred_by, by_gate, by_lists, by_acceptance}
use Rattle.pressing.proofs.EnterCall.{held_open}

clash_apart : (f : PressFault) → f ≡ NoName ⊎ (f ≡ VertexCount ⊎ (f ≡ Seed ⊎ (f ≡ WrongStage ⊎ (f ≡ ShortList)))) → f ≡ Clash → ⊥
clash_apart f (inl e) h = cc
clash_apart f (inr (inl e)) h = cc
clash_apart f (inr (inr (inl e))) h = cc
clash_apart f (inr (inr (inr (inl e)))) h = cc
clash_apart f (inr (inr (inr (inr e)))) h = cc

-- the numbers by other names
pub retold : {N : Type 0} {spelling : N → List ℕ} {n n' r r' s s' : ℕ} {rows : List (Row N)} {tables tables' : List ℕ} {edges edges' : List Edge} {vertices vertices' : List Vertex} {o : Result (Unit {0}) PressFault} →
    n ≡ n' → r ≡ r' → s ≡ s' → MapWorked spelling n r s rows tables tables' edges edges' vertices vertices' o → MapWorked spelling n' r' s' rows tables tables' edges edges' vertices vertices' o
retold {N} {spelling} {n} {n'} {r} {r'} {s} {s'} {rows} {tables} {tables'} {edges} {edges'} {vertices} {vertices'} {o} a b c w =
    subst (λ (k : ℕ × ℕ × ℕ). MapWorked spelling k.0 k.1 k.2 rows tables tables' edges edges' vertices vertices' o) (λ i. (a i, b i, c i)) w

module _ {N : Type 0} (spelling : N → List ℕ) (r seed : ℕ) (p : Pressing N) (l : Memory N) where
  abbrev clashing : Run N → Bool
  clashing m = repeats same_triple (triples spelling m.names r seed)

  abbrev tail : Run N → Option PressFault
  tail m = first (unless (not (clashing m)) Clash ∷ [])

  -- the checks behind that of the stage, and so on
  abbrev of_seed : List (Option PressFault)
  of_seed = unless (leb 1 seed && leb seed 2147483646) Seed ∷ []

  abbrev of_r : List (Option PressFault)
  of_r = unless (leb 1 r && leb r 1024) VertexCount ∷ of_seed

  abbrev of_count : ℕ → List (Option PressFault)
  of_count n = unless (ltb 0 n) NoName ∷ of_r

  abbrev of_lengths : ℕ → List (Option PressFault)
  of_lengths n = unless (ample (lent l)) ShortList ∷ of_count n

  abbrev checked : Stage → ℕ → List (Option PressFault)
  checked s n = unless (is s Open) WrongStage ∷ of_lengths n

  split : (m : Run N) → Kept spelling m p → refusal spelling m (map_to (lent l) r seed) ≡ or (map_gate p l r seed) (tail m)
  split m k =
      let a = k.stage in
      let b = k.count in
      let same : first (checked p.stage p.count) ≡ first (checked m.stage (count m)) = λ i. first (checked (a i) (b i)) in
      first_behind (checked m.stage (count m)) (unless (not (clashing m)) Clash) ∙ ap (λ o. or o (tail m)) (sym same)

  abbrev mapped : Unit {0} → Outcome
  mapped _ = answered.Mapped

  refuses : (f : PressFault) → (f ≡ Clash → ⊥) → map_gate p l r seed ≡ Some f → MapDone spelling r seed p l (Err f) p l
  refuses f ne e = record {
    done = by_gate spelling (map_to (lent l) r seed) mapped (map_gate p l r seed) (Some Clash) p l tail split f e;
    written = λ w. absurd (elim w [ inl h ↦ both_ways false refl h | inr h ↦ ne (let q : f ≡ Clash = cc in q) ]);
    kept = λ g h c. refl;
  }

  refused_by : (o : Result (Unit {0}) PressFault) (f : PressFault) → o ≡ Err f → (f ≡ Clash → ⊥) → map_gate p l r seed ≡ Some f → MapDone spelling r seed p l o p l
  refused_by o f q ne e = subst (λ o. MapDone spelling r seed p l o p l) (sym q) (refuses f ne e)

  pub barred : (o : Result (Unit {0}) PressFault) {f : PressFault} → begun Map p.stage (lent l) ≡ Err f → o ≡ Err f → MapDone spelling r seed p l o p l
  barred o {f} e q =
      let s = barred_by Map p.stage (lent l) (of_count p.count) f e in
      refused_by o f q s.1 s.0

  module _ {t : Stage} (e : begun Map p.stage (lent l) ≡ Ok t) where
    on_stage : first (checked p.stage p.count) ≡ first (of_lengths p.count)
    on_stage = goes (belongs Map p.stage) WrongStage (of_lengths p.count) (passed_by Map p.stage (lent l) t e).belonged

    enough : ample (lent l) ≡ true
    enough = (passed_by Map p.stage (lent l) t e).long

    long : first (checked p.stage p.count) ≡ first (of_count p.count)
    long = on_stage ∙ goes (ample (lent l)) ShortList (of_count p.count) enough

    -- no name, or r out of its range
    by_sizes : (c d : Bool) (f : HashFault) → first (unless c hash.NoName ∷ unless d hash.VertexCount ∷ []) ≡ Some f →
        (first (unless c NoName ∷ unless d VertexCount ∷ of_seed) ≡ Some (of_hashing f)) × (of_hashing f ≡ Clash → ⊥)
    by_sizes true true f q = absurd cc
    by_sizes true false f q =
        let s : f ≡ hash.VertexCount = cc in (ap (λ g. Some (of_hashing g)) (sym s), clash_apart (of_hashing f) (inr (inl (ap of_hashing s))))
    by_sizes false d f q =
        let s : f ≡ hash.NoName = cc in (ap (λ g. Some (of_hashing g)) (sym s), clash_apart (of_hashing f) (inl (ap of_hashing s)))

    by_seed : (c : Bool) (f : HashFault) → unless c hash.SeedRange ≡ Some f → (first (unless c Seed ∷ []) ≡ Some (of_hashing f)) × (of_hashing f ≡ Clash → ⊥)
    by_seed true f q = absurd cc
    by_seed false f q =
        let s : f ≡ hash.SeedRange = cc in (ap (λ g. Some (of_hashing g)) (sym s), clash_apart (of_hashing f) (inr (inr (inl (ap of_hashing s)))))

    in_seed : (c : Bool) → unless c hash.SeedRange ≡ None → first (unless c Seed ∷ []) ≡ None
    in_seed true q = refl
    in_seed false q = absurd cc

    in_sizes : (b c d : Bool) → first (unless b hash.TooManyNames ∷ unless c hash.NoName ∷ unless d hash.VertexCount ∷ []) ≡ None →
        first (unless c NoName ∷ unless d VertexCount ∷ of_seed) ≡ first of_seed
    in_sizes true true true q = refl
    in_sizes true true false q = absurd cc
    in_sizes true false d q = absurd cc
    in_sizes false c d q = absurd cc

    sized : sizes_fault p.count r ≡ None → first (checked p.stage p.count) ≡ first of_seed
    sized q = long ∙ in_sizes (leb p.count 1024) (leb 1 p.count) (in_range 1 1024 r) q

    pub bad_sizes : (o : Result (Unit {0}) PressFault) (f : HashFault) → sizes_fault p.count r ≡ Some f → o ≡ Err (of_hashing f) → MapDone spelling r seed p l o p l
    bad_sizes o f q w =
        let few = goes (leb p.count 1024) hash.TooManyNames (unless (leb 1 p.count) hash.NoName ∷ unless (in_range 1 1024 r) hash.VertexCount ∷ []) (le-leb p.count 1024 p.few_names) in
        let s = by_sizes (leb 1 p.count) (in_range 1 1024 r) f (sym few ∙ q) in
        refused_by o (of_hashing f) w s.1 (long ∙ s.0)

    pub bad_seed : (o : Result (Unit {0}) PressFault) (f : HashFault) → sizes_fault p.count r ≡ None → seed_fault seed ≡ Some f → o ≡ Err (of_hashing f) → MapDone spelling r seed p l o p l
    bad_seed o f q u w =
        let s = by_seed (in_range 1 2147483646 seed) f u in
        refused_by o (of_hashing f) w s.1 (sized q ∙ s.0)

    module _ (q : sizes_fault p.count r ≡ None) (u : seed_fault seed ≡ None) where
      gate : map_gate p l r seed ≡ None
      gate = sized q ∙ in_seed (in_range 1 2147483646 seed) u

      in_rows : (m : Run N) → Left spelling m p l → take p.count l.rows ≡ map as_row m.names
      in_rows m k = ap (λ n. take n l.rows) k.kept.count ∙ (k.held enough).names

      abbrev es : List Triple
      es = row_triples spelling (tables_of seed) p.count r (take p.count l.rows)

      same_triples : (m : Run N) → Left spelling m p l → es ≡ triples spelling m.names r seed
      same_triples m k =
          ap (row_triples spelling (tables_of seed) p.count r) (in_rows m k) ∙
          map-map (row_triple spelling (tables_of seed) p.count r) as_row m.names ∙
          ap (λ n. map (λ x. triple (tables_of seed) n r (spelling x.0)) m.names) k.kept.count

      module _ {tables' : List ℕ} {edges' : List Edge} {vertices' : List Vertex} (long_tables : length tables' ≡ length l.tables) (long_edges : length edges' ≡ length l.edges) (long_vertices : length vertices' ≡ length l.vertices)
          {o : Result (Unit {0}) PressFault} (w : MapWorked spelling p.count r seed l.rows l.tables tables' l.edges edges' l.vertices vertices' o) where
        abbrev l' : Memory N
        l' = record { rows = l.rows; tables = tables'; edges = edges'; vertices = vertices'; heap = l.heap; ordered = l.ordered; slots = l.slots }

        wrote : MapWrote spelling p.count r seed l l'
        wrote = record { rows = refl; tables = w.tables_drawn; graph = w.graph; edges_past = w.edges_past; vertices_past = w.vertices_past; heap = refl; ordered = refl; slots = refl }

        as_long : lent l' ≡ lent l
        as_long = λ i. record { rows = length l.rows; tables = long_tables i; edges = long_edges i; vertices = long_vertices i; heap = length l.heap; ordered = length l.ordered; slots = length l.slots }

        by_answer : (b : Bool) (f : PressFault) → ◌≡◌ {A = Result (Unit {0}) PressFault} (Err f) (with_value (unless (not b) Clash) tt) → (b ≡ true) × (f ≡ Clash)
        by_answer true f e = (refl, cc)
        by_answer false f e = absurd cc

        by_none : (b : Bool) → ◌≡◌ {A = Result (Unit {0}) PressFault} (Ok tt) (with_value (unless (not b) Clash) tt) → b ≡ false
        by_none true e = absurd cc
        by_none false e = refl

        same_clash : (m : Run N) → Left spelling m p l → clashes es ≡ clashing m
        same_clash m k = ap (repeats same_triple) (same_triples m k)

        clash_done : clashes es ≡ true → MapDone spelling r seed p l (Err Clash) p l'
        clash_done c = record {
          done = by_lists spelling (map_to (lent l) r seed) mapped (map_gate p l r seed) (Some Clash) p l tail split Clash l' gate refl as_long
              (λ m k. (
                stops (not (clashing m)) Clash [] (not_from_true (clashing m) (sym (same_clash m k) ∙ c)),
                λ a. held_open spelling m (sym k.kept.stage ∙ at_open) l' (k.held a).names,
              ));
          written = λ _. wrote;
          kept = λ f e n. absurd (n (let z : f ≡ Clash = cc in z));
        }
          where
            at_open : p.stage ≡ Open
            at_open = is_true p.stage Open (passed_by Map p.stage (lent l) t e).belonged

        pub clashed : (f : PressFault) (a : Result (Unit {0}) PressFault) → o ≡ Err f → a ≡ Err f → MapDone spelling r seed p l a p l'
        clashed f a x y =
            let z = by_answer (clashes es) f (sym x ∙ w.answer) in
            subst (λ a. MapDone spelling r seed p l a p l') (sym (y ∙ ap (λ g. Err g) z.1)) (clash_done z.0)

        module _ (x : o ≡ Ok tt) (p' : Pressing N) (staged : p'.stage ≡ t) (counted : p'.count ≡ p.count) (r_is : p'.r ≡ r) (seed_is : p'.seed ≡ seed) (level_is : p'.level ≡ p.level) where
          held : (m : Run N) → Left spelling m p l → Held spelling (with_map m r seed) l'
          held m k = record {
            names = (k.held enough).names;
            mapped = λ _. record {
              tables = ap (take 12288) w.tables_drawn ∙ take-append-le 12288 (tables_of seed) (drop 12288 l.tables) (omega (arith, length_tables seed)) ∙ take_all 12288 (tables_of seed) (omega (arith, length_tables seed));
              graph = subst (λ gs. Graph gs r edges' vertices') (same_triples m k) w.graph;
            };
            ordered = λ b. absurd (omega arith);
          }

          pub accepted : MapDone spelling r seed p l (Ok tt) p' l'
          accepted = record {
            done = by_acceptance spelling (map_to (lent l) r seed) mapped (map_gate p l r seed) (Some Clash) p l tail split tt p' l' gate as_long tt
                (λ m k. (
                  goes (not (clashing m)) Clash [] (not_from_false (clashing m) (sym (same_clash m k) ∙ by_none (clashes es) (sym x ∙ w.answer))),
                  refl,
                  record {
                    stage = staged ∙ (passed_by Map p.stage (lent l) t e).led;
                    count = counted ∙ k.kept.count;
                    r = r_is;
                    seed = seed_is;
                    level = level_is ∙ k.kept.level;
                    levels = λ b. absurd (omega arith);
                  },
                  λ _. held m k,
                ));
            written = λ _. wrote;
            kept = λ f e n. absurd cc;
          }
