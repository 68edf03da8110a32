-- Ordering, at each of its exits.
use Rattle.std.proofs.Common.{◌≡◌, ℕ, zero, suc, ◌+◌, ◌*◌, ◌<◌, ◌≤◌, true, List, [], ◌∷◌, map, length, get_or, take, drop, replicate, Some, None, Ok, Err, Option, Result, sym, refl, ap, ◌∙◌, subst, arith}
use Rattle.std.specs.List.{range_with_len}
use Rattle.std.proofs.lemmas.List.{take-append-le, take_all, length-replicate, get_or-replicate}
use Rattle.refusals.specs.Checks.{unless, or, first}
use Rattle.hashing.specs.Triples.{Triple}
use Rattle.graph.specs.declared.rows.Edge.{Edge}
use Rattle.graph.specs.declared.rows.Vertex.{Vertex}
use Rattle.orders.specs.declared.waiting.Waiting.{Waiting}
use Rattle.graph.specs.Chains.{Graph, row}
use Rattle.ordering.specs.Queue.{OrderedGraph}
use Rattle.leveling.specs.Level.{first_where, fills, filler, slot_rows}
use Rattle.runs.specs.declared.stage.Stage.{Stage}
use Rattle.runs.specs.declared.stage.Stage.TheVariants.{Mapped}
use Rattle.runs.specs.declared.fault.PressFault.{PressFault}
use Rattle.runs.specs.declared.fault.PressFault.TheVariants.{WrongStage, ShortList}
use Rattle.runs.specs.declared.answer.Outcome.{Outcome}
use Rattle.runs.specs.declared.answer.Outcome.TheVariants as answered
use Rattle.runs.specs.Runs.{ample, Run, order_by, is, rank, count, graph, vertex_order, with_order, refusal}
use Rattle.runs.proofs.Standing.{is_true, length_graph}
use Rattle.pressing.specs.declared.press.Pressing.{Pressing}
use Rattle.pressing.specs.declared.stage.Event.TheVariants.{Order}
use Rattle.pressing.specs.Memory.{Memory, lent}
use Rattle.pressing.specs.Stages.{belongs, begun}
use Rattle.pressing.specs.Left.{Kept, Held, Left}
use Rattle.pressing.specs.Work.{OrderWorked}
use Rattle.pressing.specs.Calls.{order_gate, OrderDone}
use Rattle.pressing.proofs.Steps.{goes, or_none, passed_by, barred_by, by_gate, by_acceptance}

-- before the first fit every slot is empty

none_fills : (es : List Triple) (n : ℕ) (values : List ℕ) (s k i : ℕ) → first_where (fills es n values [] s) k i ≡ None
none_fills es n values s zero i = refl
none_fills es n values s (suc k) i = none_fills es n values s k (suc i)

none_in : (es : List Triple) (n : ℕ) (values : List ℕ) (k i : ℕ) → map (filler es n values []) (range_with_len i k) ≡ replicate k None
none_in es n values zero i = refl
none_in es n values (suc k) i = λ j. none_fills es n values i (length es) 0 j ∷ none_in es n values k (i + 1) j

empty_rows : (es : List Triple) (n : ℕ) (values : List ℕ) → slot_rows es n values [] ≡ replicate n None
empty_rows es n values = none_in es n values n 0

-- the same work by another name of r
pub retold : {n r r' k : ℕ} {edges : List Edge} {vertices vertices' : List Vertex} {heap heap' : List Waiting} {ordered ordered' : List ℕ} {slots slots' : List (Option ℕ)} → r ≡ r' →
    OrderWorked n r edges vertices vertices' heap heap' ordered ordered' slots slots' k → OrderWorked n r' edges vertices vertices' heap heap' ordered ordered' slots slots' k
retold {n} {r} {r'} {k} {edges} {vertices} {vertices'} {heap} {heap'} {ordered} {ordered'} {slots} {slots'} e w =
    subst (λ x. OrderWorked n x edges vertices vertices' heap heap' ordered ordered' slots slots' k) e w

module _ {N : Type 0} (spelling : N → List ℕ) (p : Pressing N) (l : Memory N) where
  abbrev of_lengths : List (Option PressFault)
  of_lengths = unless (ample (lent l)) ShortList ∷ []

  split : (m : Run N) → Kept spelling m p → refusal spelling m (order_by (lent l)) ≡ or (order_gate p l) None
  split m k = ap (λ s. first (unless (is s Mapped) WrongStage ∷ of_lengths)) (sym k.stage) ∙ sym (or_none (order_gate p l))

  abbrev ordered : ℕ → Outcome
  ordered k = answered.Ordered k

  refuses : (f : PressFault) → order_gate p l ≡ Some f → OrderDone spelling p l (Err f) p l
  refuses f e = record { done = by_gate spelling (order_by (lent l)) ordered (order_gate p l) None p l (λ _. None) split f e; lists = refl }

  pub barred : (o : Result ℕ PressFault) {f : PressFault} → begun Order p.stage (lent l) ≡ Err f → o ≡ Err f → OrderDone spelling p l o p l
  barred o {f} e q =
      let s = barred_by Order p.stage (lent l) [] f e in
      subst (λ o. OrderDone spelling p l o p l) (sym q) (refuses f s.0)

  module _ {t : Stage} (e : begun Order p.stage (lent l) ≡ Ok t) where
    on_stage : order_gate p l ≡ first of_lengths
    on_stage = goes (belongs Order p.stage) WrongStage of_lengths (passed_by Order p.stage (lent l) t e).belonged

    enough : ample (lent l) ≡ true
    enough = (passed_by Order p.stage (lent l) t e).long

    module _ {vertices' : List Vertex} {heap' : List Waiting} {ordered' : List ℕ} {slots' : List (Option ℕ)}
        (long_vertices : length vertices' ≡ length l.vertices) (long_heap : length heap' ≡ length l.heap) (long_ordered : length ordered' ≡ length l.ordered) (long_slots : length slots' ≡ length l.slots)
        {k : ℕ} (w : OrderWorked p.count p.r l.edges l.vertices vertices' l.heap heap' l.ordered ordered' l.slots slots' k) where
      abbrev l' : Memory N
      l' = record { rows = l.rows; tables = l.tables; edges = l.edges; vertices = vertices'; heap = heap'; ordered = ordered'; slots = slots' }

      as_long : lent l' ≡ lent l
      as_long = λ i. record { rows = length l.rows; tables = length l.tables; edges = length l.edges; vertices = long_vertices i; heap = long_heap i; ordered = long_ordered i; slots = long_slots i }

      module _ (m : Run N) (z : Left spelling m p l) where
        at_mapped : m.stage ≡ Mapped
        at_mapped = sym z.kept.stage ∙ is_true p.stage Mapped (passed_by Order p.stage (lent l) t e).belonged

        rank_mapped : rank Mapped ≤ rank m.stage
        rank_mapped = omega (arith, ap rank at_mapped)

        held_graph : Graph (graph spelling m) p.r l.edges l.vertices
        held_graph = subst (λ r. Graph (graph spelling m) r l.edges l.vertices) (sym z.kept.r) ((z.held enough).mapped rank_mapped).graph

        exact : OrderedGraph (graph spelling m) m.r l.edges vertices' ordered' k
        exact = subst (λ r. OrderedGraph (graph spelling m) r l.edges vertices' ordered' k) z.kept.r (w.exact (graph spelling m) (length_graph spelling m ∙ sym z.kept.count) held_graph)

        counted : k ≡ length (vertex_order spelling m)
        counted = exact.counted

        slots_at : take (count m) slots' ≡ slot_rows (graph spelling m) (count m) (replicate (2 * m.r) 0) []
        slots_at =
            ap (λ n. take n slots') (sym z.kept.count) ∙ ap (take p.count) w.slots_empty ∙
            take-append-le p.count (replicate p.count None) (drop p.count l.slots) (omega (arith, length-replicate {A = Option ℕ} p.count None)) ∙
            take_all p.count (replicate p.count None) (omega (arith, length-replicate {A = Option ℕ} p.count None)) ∙
            ap (λ n. replicate n None) z.kept.count ∙ sym (empty_rows (graph spelling m) (count m) (replicate (2 * m.r) 0))

        values_at : (u : ℕ) → u < 2 * m.r → (row vertices' u).value ≡ get_or (replicate (2 * m.r) 0) u 0
        values_at u b = w.begun.value u (omega (arith, z.kept.r)) ∙ sym (get_or-replicate (2 * m.r) u 0 0 b)

        held : Held spelling (with_order m) l'
        held = record {
          names = (z.held enough).names;
          mapped = λ _. record { tables = ((z.held enough).mapped rank_mapped).tables; graph = exact.graph };
          ordered = λ _. record {
            order = subst (λ j. OrderedGraph (graph spelling m) m.r l.edges vertices' ordered' j) counted exact;
            values = values_at;
            slots = slots_at;
          };
        }

      pub accepted : (p' : Pressing N) → p'.stage ≡ t → p'.count ≡ p.count → p'.r ≡ p.r → p'.seed ≡ p.seed → p'.level ≡ 0 → p'.levels ≡ k → OrderDone spelling p l (Ok k) p' l'
      accepted p' staged counted_is r_is seed_is level_is levels_is = record {
        done = by_acceptance spelling (order_by (lent l)) ordered (order_gate p l) None p l (λ _. None) split k p' l'
            (on_stage ∙ goes (ample (lent l)) ShortList [] enough) as_long tt
            (λ m z. (
              refl,
              ap (λ j. answered.Ordered j) (counted m z),
              record {
                stage = staged ∙ (passed_by Order p.stage (lent l) t e).led;
                count = counted_is ∙ z.kept.count;
                r = r_is ∙ z.kept.r;
                seed = seed_is ∙ z.kept.seed;
                level = level_is;
                levels = λ _. levels_is ∙ counted m z;
              },
              λ _. held m z,
            ));
        lists = record { rows = refl; tables = refl; edges = refl; vertices = w.begun; heap_past = w.heap_past; ordered_past = w.ordered_past; slots = w.slots_empty };
      }
