-- What the invariant says of names, triples, filled slots and levels.
use Rattle.std.proofs.Common.{◌≡◌, ℕ, ◌*◌, ◌<◌, ◌≤◌, List, map, length, set, arith}
use Rattle.std.proofs.ByRecursion.{All-get_or}
use Rattle.runs.specs.declared.stage.Stage.{Stage}
use Rattle.runs.specs.declared.stage.Stage.TheVariants.{Open, Mapped, Ordered, Fitted, Sealed}
use Rattle.runs.specs.Fitting.{slot}
use Rattle.runs.specs.Runs.{Run, rank, count, graph, vertex_order, earlier, vertex, level_names, level_slots}
use Rattle.runs.specs.Laws.{no_triple, slot_at, FilledBySettled, LevelsLeft}
use Rattle.runs.proofs.Times.{times_among, among_times}
use Rattle.runs.proofs.Ordering.{order_lined}
use Rattle.runs.proofs.Levels.{level_turned}
use Rattle.runs.proofs.Graph.{ends_differ, fresh_at, settled_place, place_settled, settled_apart}
use Rattle.runs.proofs.Standing.{Ranged, SoFarFilled, AtStage, Stands, at, edges_of, length_graph}

module _ {N : Type 0} (spelling : N → List ℕ) (m : Run N) (h : Stands spelling m) where
  pub ranged : rank Mapped ≤ rank m.stage → Ranged spelling m
  ranged high = go m.stage high h.at_stage
    where
      go : (s : Stage) → rank Mapped ≤ rank s → AtStage spelling s m → Ranged spelling m
      go Open l a = absurd (omega arith)
      go Mapped l a = a
      go Ordered l a = a.0
      go Fitted l a = a.0
      go Sealed l a = a.0

  pub so_far : rank Ordered ≤ rank m.stage → SoFarFilled spelling m
  so_far high = go m.stage high h.at_stage
    where
      go : (s : Stage) → rank Ordered ≤ rank s → AtStage spelling s m → SoFarFilled spelling m
      go Open l a = absurd (omega arith)
      go Mapped l a = absurd (omega arith)
      go Ordered l a = a.1
      go Fitted l a = a.1
      go Sealed l a = a.1

  pub levels_left : LevelsLeft spelling m
  levels_left = record { some_left = λ e. (at spelling m Ordered h e).2; none_left = λ high. go m.stage high h.at_stage }
    where
      go : (s : Stage) → rank Fitted ≤ rank s → AtStage spelling s m → m.level ≡ length (vertex_order spelling m)
      go Open l a = absurd (omega arith)
      go Mapped l a = absurd (omega arith)
      go Ordered l a = absurd (omega arith)
      go Fitted l a = a.2
      go Sealed l a = a.2

  pub filled_by_settled : rank Ordered ≤ rank m.stage → FilledBySettled spelling m
  filled_by_settled high =
      let f = so_far high in
      record {
        from_name = λ s e.
            let p = settled_place (count m) m.values (earlier spelling m) no_triple (graph spelling m) s (omega (arith, times_among s m.filled e, f.same s)) in
            (p.0, omega (arith, p.1, length_graph spelling m), p.2, p.3);
        of_name = λ i l e. among_times (slot_at spelling m i) m.filled
            (omega (arith, f.same (slot_at spelling m i), place_settled (count m) m.values (earlier spelling m) no_triple (graph spelling m) i (omega (arith, length_graph spelling m)) e));
        of_one = λ i j a b. settled_apart (count m) m.values (earlier spelling m) no_triple (graph spelling m) (λ s. omega (arith, f.same s, f.apart s)) i j a (omega (arith, length_graph spelling m));
      }

  pub rotation_gives_slots : m.stage ≡ Ordered → (v : ℕ) → level_slots spelling m v ≡ map (slot (count m) (set m.values (vertex spelling m) v)) (level_names spelling m)
  rotation_gives_slots e v =
      let a = at spelling m Ordered h e in
      let lined = order_lined (graph spelling m) m.r in
      level_turned (count m) m.values (earlier spelling m) (vertex spelling m) v
      (omega (arith, a.1.size, All-get_or (λ u. u < 2 * m.r) (vertex_order spelling m) m.level 0 a.2 lined.low))
      (fresh_at (2 * m.r) (vertex_order spelling m) lined m.level a.2)
      (graph spelling m) (ends_differ m.r (graph spelling m) (edges_of spelling m a.0.some_vertex))
