-- What holds of every reckoned run, stage by stage.
use Rattle.std.proofs.Common.{◌≡◌, ℕ, zero, suc, ◌*◌, ◌%◌, ◌<◌, ◌≤◌, Bool, true, false, cond, not, ◌&&◌, eqb, ltb, leb, List, [], ◌∷◌, ◌++◌, map, length, take, set, is_some, Some, None, Option, sym, refl, ap, ◌∙◌, subst, mod-lt, add-one, arith}
use Rattle.std.specs.List.{AllByRecursion}
use Rattle.std.proofs.lemmas.Bool.{eqb-true, eqb-false, leb-true, ltb-true, not-true, and_parts, both_ways}
use Rattle.std.proofs.lemmas.List.{length_push, length-map, map_push}
use Rattle.std.proofs.ByRecursion.{All-push}
use Rattle.refusals.specs.Checks.{unless, or, first}
use Rattle.hashing.specs.Generator.{tables}
use Rattle.hashing.specs.Triples.{Triple, triple}
use Rattle.ways.specs.Permutation.{Meaning, asked, Permutes}
use Rattle.runs.specs.declared.stage.Stage.{Stage}
use Rattle.runs.specs.declared.stage.Stage.TheVariants.{Open, Mapped, Ordered, Fitted, Sealed}
use Rattle.runs.specs.declared.fault.PressFault.{PressFault}
use Rattle.runs.specs.declared.fault.PressFault.TheVariants.{WrongStage, TooManyNames, SpellingEntered, WaySize, NoName, VertexCount, Seed, Clash, Unfit, ShortString}
use Rattle.std.specs.Str.{bytes_eq}
use Rattle.runs.specs.Lists.{has, repeats, Distinct}
use Rattle.runs.specs.Fitting.{free}
use Rattle.runs.specs.Runs.{Run, Call, enter, map_to, order_by, fit, reopen, seal, Lent, rank, is, same_triple, count, spellings, triples, graph, vertex_order, earlier, vertex, level_offsets, level_slots, fit_found, string_length, checks, refusal, with_level, accepted, unless_refused, step, beginning, continued, reckoned}
use Rattle.runs.specs.Laws.{Sound, no_triple}
use Rattle.runs.proofs.Distinct.{same_refl, triple_refl, has_false, repeats_false, distinct_push}
use Rattle.runs.proofs.Fits.{FirstStep, first_some}
use Rattle.runs.proofs.Graph.{Edge, triple_edge, Filled, filled_none, filled_level, some_level}

-- 1. checks and stages

-- a check that finds nothing is met, and so is each of several
met : {F : Type 0} (b : Bool) (f : F) → unless b f ≡ None → b ≡ true
met true f h = refl
met false f h = absurd cc

or_none : {F : Type 0} (o p : Option F) → or o p ≡ None → (o ≡ None) × (p ≡ None)
or_none None p h = (refl, h)
or_none (Some f) p h = absurd cc

clear : {F : Type 0} (os : List (Option F)) → first os ≡ None → AllByRecursion (λ o. o ≡ None) os
clear [] h = tt
clear (o ∷ os) h = let p = or_none o (first os) h in (p.0, clear os p.1)

of_rank : ℕ → Stage
of_rank zero = Open
of_rank (suc zero) = Mapped
of_rank (suc (suc zero)) = Ordered
of_rank (suc (suc (suc zero))) = Fitted
of_rank (suc (suc (suc (suc k)))) = Sealed

rank_back : (s : Stage) → of_rank (rank s) ≡ s
unfolding of_rank
rank_back Open = refl
rank_back Mapped = refl
rank_back Ordered = refl
rank_back Fitted = refl
rank_back Sealed = refl

pub is_true : (s t : Stage) → is s t ≡ true → s ≡ t
is_true s t h = sym (rank_back s) ∙ ap of_rank (eqb-true (rank s) (rank t) h) ∙ rank_back t

-- 2. the rotations of a way

pub asked_below : (w : Meaning) → Permutes w → (l j : ℕ) → asked w l j < w.size
asked_below w h l j = h.below (l % 2048) (j % w.size) (mod-lt l (let p : 0 < 2048 = omega arith in p)) (mod-lt j h.some)

-- 3. the invariant

-- what an accepted map has made sure of
pub record Ranges (n r seed : ℕ) (es : List Triple) : Type 0 where
  pub some_name : 1 ≤ n
  pub some_vertex : 1 ≤ r
  pub few_vertices : r ≤ 1024
  pub seed_low : 1 ≤ seed
  pub seed_high : seed ≤ 2147483646
  pub no_clash : Distinct no_triple es

module _ {N : Type 0} (spelling : N → List ℕ) where
  abbrev pub Ranged : Run N → Type 0
  Ranged m = Ranges (count m) m.r m.seed (graph spelling m)

  abbrev pub SoFarFilled : Run N → Type 0
  SoFarFilled m = Filled (count m) (2 * m.r) (graph spelling m) m.values m.filled (earlier spelling m)

  abbrev pub AtStage : Stage → Run N → Type 0
  AtStage Open m = Unit {0}
  AtStage Mapped m = Ranged m
  AtStage Ordered m = Ranged m × SoFarFilled m × (m.level < length (vertex_order spelling m))
  AtStage Fitted m = Ranged m × SoFarFilled m × (m.level ≡ length (vertex_order spelling m))
  AtStage Sealed m = Ranged m × SoFarFilled m × (m.level ≡ length (vertex_order spelling m))

  pub record Stands (m : Run N) : Type 0 where
    pub few : count m ≤ 1024
    pub low : AllByRecursion (λ x. x.1 < 65536) m.names
    pub spelled : Distinct [] (spellings spelling m.names)
    pub at_stage : AtStage m.stage m

  pub at : (m : Run N) (s : Stage) → Stands m → m.stage ≡ s → AtStage s m
  at m s h e = subst (λ t. AtStage t m) e h.at_stage

  pub edges_of : (m : Run N) → 1 ≤ m.r → AllByRecursion (Edge m.r) (graph spelling m)
  edges_of m h = go m.names
    where
      go : (xs : List (N × ℕ)) → AllByRecursion (Edge m.r) (map (λ x. triple (tables m.seed) (count m) m.r (spelling x.0)) xs)
      go [] = tt
      go (x ∷ xs) = (triple_edge (tables m.seed) (count m) m.r (spelling x.0) h, go xs)

  pub length_graph : (m : Run N) → length (graph spelling m) ≡ count m
  length_graph m = length-map m.names _

  -- 4. the checks that an accepted call has passed

  pub record Enterable (m : Run N) (x : N) : Type 0 where
    pub few : count m < 1024
    pub new : has bytes_eq (spelling x) (spellings spelling m.names) ≡ false

  enter_passed : (m : Run N) (l : Lent) (x : N) (v : ℕ) → refusal spelling m (enter l x v) ≡ None → Enterable m x
  enter_passed m l x v ok =
      let k = clear (checks spelling m (enter l x v)) ok in
      record {
        few = ltb-true (count m) 1024 (met (ltb (count m) 1024) TooManyNames k.1.1.0);
        new = not-true again (met (not again) SpellingEntered k.1.1.1.0);
      }
    where
      again : Bool
      again = has bytes_eq (spelling x) (spellings spelling m.names)

  map_passed : (m : Run N) (l : Lent) (r seed : ℕ) → refusal spelling m (map_to l r seed) ≡ None → Ranges (count m) r seed (triples spelling m.names r seed)
  map_passed m l r seed ok =
      let k = clear (checks spelling m (map_to l r seed)) ok in
      let p = and_parts (leb 1 r) (leb r 1024) (met (leb 1 r && leb r 1024) VertexCount k.1.1.1.0) in
      let q = and_parts (leb 1 seed) (leb seed 2147483646) (met (leb 1 seed && leb seed 2147483646) Seed k.1.1.1.1.0) in
      record {
        some_name = ltb-true 0 (count m) (met (ltb 0 (count m)) NoName k.1.1.0);
        some_vertex = leb-true 1 r p.0;
        few_vertices = leb-true r 1024 p.1;
        seed_low = leb-true 1 seed q.0;
        seed_high = leb-true seed 2147483646 q.1;
        no_clash = repeats_false same_triple triple_refl no_triple (triples spelling m.names r seed) (not-true clash (met (not clash) Clash k.1.1.1.1.1.0));
      }
    where
      clash : Bool
      clash = repeats same_triple (triples spelling m.names r seed)

  pub order_passed : (m : Run N) (l : Lent) → refusal spelling m (order_by l) ≡ None → m.stage ≡ Mapped
  order_passed m l ok = is_true m.stage Mapped (met (is m.stage Mapped) WrongStage (clear (checks spelling m (order_by l)) ok).0)

  pub record Fittable (m : Run N) (w : Meaning) : Type 0 where
    pub stage : m.stage ≡ Ordered
    pub sized : w.size ≡ count m
    pub value : ℕ
    pub tries : ℕ
    pub is_found : fit_found spelling m w ≡ Some (value, tries)

  pub fit_passed : (m : Run N) (l : Lent) (w : Meaning) → refusal spelling m (fit l w) ≡ None → Fittable m w
  fit_passed m l w ok =
      let k = clear (checks spelling m (fit l w)) ok in
      let e = some (fit_found spelling m w) (met (is_some (fit_found spelling m w)) (Unfit m.level) k.1.1.1.0) in
      record {
        stage = is_true m.stage Ordered (met (is m.stage Ordered) WrongStage k.0);
        sized = eqb-true w.size (count m) (met (eqb w.size (count m)) WaySize k.1.1.0);
        value = e.0;
        tries = e.1;
        is_found = e.2;
      }
    where
      some : (o : Option (ℕ × ℕ)) → is_some o ≡ true → (v : ℕ) × (t : ℕ) × (o ≡ Some (v, t))
      some None h = absurd (both_ways false refl h)
      some (Some (v, t)) h = (v, t, refl)

  pub seal_passed : (m : Run N) (l : Lent) (room : ℕ) → refusal spelling m (seal l room) ≡ None → (m.stage ≡ Fitted) × (string_length m ≤ room)
  seal_passed m l room ok =
      let k = clear (checks spelling m (seal l room)) ok in (
        is_true m.stage Fitted (met (is m.stage Fitted) WrongStage k.0),
        leb-true (string_length m) room (met (leb (string_length m) room) ShortString k.1.1.0),
      )

  -- 5. an accepted call keeps the invariant

  pub found_step : (m : Run N) (w : Meaning) (x : ℕ × ℕ) → fit_found spelling m w ≡ Some x → FirstStep (count m) (asked w m.level) m.filled (level_offsets spelling m) (count m) 0 x
  found_step m w x e = first_some (count m) (asked w m.level) m.filled (level_offsets spelling m) (count m) 0 x e

  after_enter : (m : Run N) (l : Lent) (x : N) (v : ℕ) → v < 65536 → Stands m → Enterable m x → Stands (accepted spelling m (enter l x v))
  after_enter m l x v small h p = record {
    few = omega (arith, length_push m.names (x, v), p.few);
    low = All-push (λ y. y.1 < 65536) m.names (x, v) h.low small;
    spelled = rw (map_push (λ (y : N × ℕ). spelling y.0) m.names (x, v))
        (distinct_push [] (spellings spelling m.names) (spelling x) h.spelled (has_false bytes_eq same_refl [] (spelling x) (spellings spelling m.names) p.new));
    at_stage = tt;
  }

  after_order : (m : Run N) (l : Lent) → Stands m → Ranged m → Stands (accepted spelling m (order_by l))
  after_order m l h g = record {
    few = h.few;
    low = h.low;
    spelled = h.spelled;
    at_stage = (
      g,
      filled_none (count m) (2 * m.r) (graph spelling m) g.some_name,
      some_level (graph spelling m) m.r (omega (arith, length_graph m, g.some_name)) (edges_of m g.some_vertex),
    );
  }

  module _ (m : Run N) (h : Stands m) (g : AtStage Ordered m) (x t : ℕ) (small : x < count m) (ok : free m.filled (level_slots spelling m x) ≡ true) where
    more : Filled (count m) (2 * m.r) (graph spelling m) (set m.values (vertex spelling m) x) (m.filled ++ level_slots spelling m x) (take (suc m.level) (vertex_order spelling m))
    more = rw add-one at (filled_level (count m) m.r (graph spelling m) m.values m.filled m.level x (edges_of m g.0.some_vertex) g.2 g.1 small ok)

    after_level : (b : Bool) → eqb (suc m.level) (length (vertex_order spelling m)) ≡ b → AtStage (cond b Fitted Ordered) (with_level spelling m (Some (x, t)))
    after_level true e = (g.0, more, eqb-true (suc m.level) (length (vertex_order spelling m)) e)
    after_level false e = (g.0, more, let q : suc m.level ≡ length (vertex_order spelling m) → ⊥ = eqb-false (suc m.level) (length (vertex_order spelling m)) e in omega (arith, g.2))

    level_stands : Stands (with_level spelling m (Some (x, t)))
    level_stands = record { few = h.few; low = h.low; spelled = h.spelled; at_stage = after_level (eqb (suc m.level) (length (vertex_order spelling m))) refl }

  after_fit : (m : Run N) (l : Lent) (w : Meaning) → Permutes w → Stands m → Fittable m w → Stands (accepted spelling m (fit l w))
  after_fit m l w law h p =
      let q = found_step m w (p.value, p.tries) p.is_found in
      subst (λ o. Stands (with_level spelling m o)) (sym p.is_found)
      (level_stands m h (at m Ordered h p.stage) p.value p.tries
      (omega (arith, q.rotated, asked_below w law m.level q.step, p.sized)) q.fits)

  after_accepted : (m : Run N) (c : Call N) → Sound c → Stands m → refusal spelling m c ≡ None → Stands (accepted spelling m c)
  after_accepted m (enter l x v) s h ok = after_enter m l x v s h (enter_passed m l x v ok)
  after_accepted m (map_to l r seed) s h ok = record { few = h.few; low = h.low; spelled = h.spelled; at_stage = map_passed m l r seed ok }
  after_accepted m (order_by l) s h ok = after_order m l h (at m Mapped h (order_passed m l ok))
  after_accepted m (fit l w) s h ok = after_fit m l w s h (fit_passed m l w ok)
  after_accepted m reopen s h ok = record { few = h.few; low = h.low; spelled = h.spelled; at_stage = tt }
  after_accepted m (seal l room) s h ok = record { few = h.few; low = h.low; spelled = h.spelled; at_stage = at m Fitted h (seal_passed m l room ok).0 }

  -- 6. so every run stands

  -- a call is refused, or accepted
  pub after_call : (P : Run N → Type 0) (m : Run N) (c : Call N) → ((f : PressFault) → refusal spelling m c ≡ Some f → P m) → (refusal spelling m c ≡ None → P (accepted spelling m c)) → P (step spelling m c)
  after_call P m c fails passes = go (refusal spelling m c) refl
    where
      go : (o : Option PressFault) → refusal spelling m c ≡ o → P (unless_refused o (accepted spelling m c) (λ f. m))
      go None e = passes e
      go (Some f) e = fails f e

  pub stands_step : (m : Run N) (c : Call N) → Sound c → Stands m → Stands (step spelling m c)
  stands_step m c s h = after_call Stands m c (λ f e. h) (after_accepted m c s h)

  pub stands_on : (m : Run N) (calls : List (Call N)) → AllByRecursion Sound calls → Stands m → Stands (continued spelling m calls)
  stands_on m [] s h = h
  stands_on m (c ∷ cs) s h = stands_on (step spelling m c) cs s.1 (stands_step m c s.0 h)

  pub stands : (calls : List (Call N)) → AllByRecursion Sound calls → Stands (reckoned spelling calls)
  stands calls s = stands_on beginning calls s (record { few = omega arith; low = tt; spelled = λ i j a b e. omega arith; at_stage = tt })
