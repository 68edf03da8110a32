-- First parts of the lists hold what the whole lists hold, and the other way round. Assumes nothing.
use Rattle.std.proofs.Common.{◌≡◌, ℕ, ◌*◌, ◌<◌, ◌≤◌, true, List, ◌++◌, length, get_or, take, drop, sym, ap, ◌∙◌, subst, arith}
use Rattle.std.proofs.lemmas.List.{take-take, get_or-take, take-append-le, take-append-drop, length-take}
use Rattle.hashing.specs.Triples.{Triple}
use Rattle.graph.specs.Chains.{blank, bare, row, Linked, Headed, Graph}
use Rattle.ordering.specs.Queue.{Placed}
use Rattle.runs.specs.Runs.{Lent, ample, Run, rank, count, graph as graph_of, vertex_order}
use Rattle.runs.proofs.Standing.{Stands, length_graph}
use Rattle.pressing.specs.declared.press.Pressing.{Pressing}
use Rattle.pressing.specs.Memory.{Memory, lent, memory}
use Rattle.pressing.specs.Left.{Kept, Held, OrderedLists}
use Rattle.pressing.proofs.Room.{Ample, ample_all, all_ample}

-- 1. lists that agree in the places that may be in use

pub record Agree {N : Type 0} (l l' : Memory N) : Type 0 where
  pub rows : take 1024 l.rows ≡ take 1024 l'.rows
  pub tables : take 12288 l.tables ≡ take 12288 l'.tables
  pub edges : take 1024 l.edges ≡ take 1024 l'.edges
  pub vertices : take 2048 l.vertices ≡ take 2048 l'.vertices
  pub ordered : take 2048 l.ordered ≡ take 2048 l'.ordered
  pub slots : take 1024 l.slots ≡ take 1024 l'.slots

take_agree : {X : Type 0} (k b : ℕ) (xs ys : List X) → k ≤ b → take b xs ≡ take b ys → take k xs ≡ take k ys
take_agree k b xs ys h e = sym (take-take k b xs h) ∙ ap (take k) e ∙ take-take k b ys h

get_or_agree : {X : Type 0} (b i : ℕ) (xs ys : List X) (d : X) → i < b → take b xs ≡ take b ys → get_or xs i d ≡ get_or ys i d
get_or_agree {X} b i xs ys d h e = sym (get_or-take b xs i d h) ∙ ap (λ (zs : List X). get_or zs i d) e ∙ get_or-take b ys i d h

module _ {N : Type 0} (spelling : N → List ℕ) (m : Run N) (p : Pressing N) (st : Stands spelling m) (k : Kept spelling m p) (l l' : Memory N) (g : Agree l l') where
  abbrev es : List Triple
  es = graph_of spelling m

  few_vertices : m.r ≤ 1024
  few_vertices = omega (arith, k.r, p.few_vertices)

  row_agree : (v : ℕ) → v < 2 * m.r → row l.vertices v ≡ row l'.vertices v
  row_agree v b = get_or_agree 2048 v l.vertices l'.vertices bare (omega (arith, few_vertices)) g.vertices

  graph_agree : Graph es m.r l.edges l.vertices → Graph es m.r l'.edges l'.vertices
  graph_agree h = record {
    halves = h.halves;
    edge = λ i b. subst (λ x. Linked es i x) (get_or_agree 1024 i l.edges l'.edges blank (omega (arith, length_graph spelling m, st.few)) g.edges) (h.edge i b);
    vertex = λ v b. subst (λ x. Headed es v x) (row_agree v b) (h.vertex v b);
  }

  ordered_agree : 2 ≤ rank m.stage → OrderedLists spelling m l → OrderedLists spelling m l'
  ordered_agree at h = record {
    order = record {
      graph = graph_agree h.order.graph;
      counted = h.order.counted;
      listed = take_agree (length (vertex_order spelling m)) 2048 l'.ordered l.ordered (omega (arith, k.levels at, p.few_levels)) (sym g.ordered) ∙ h.order.listed;
      placed = λ v b. subst (λ x. Placed (vertex_order spelling m) v x.place) (row_agree v b) (h.order.placed v b);
    };
    values = λ u b. ap (λ x. x.value) (sym (row_agree u b)) ∙ h.values u b;
    slots = take_agree (count m) 1024 l'.slots l.slots st.few (sym g.slots) ∙ h.slots;
  }

  pub held_agree : Held spelling m l → Held spelling m l'
  held_agree h = record {
    names = take_agree (count m) 1024 l'.rows l.rows st.few (sym g.rows) ∙ h.names;
    mapped = λ at. record { tables = sym g.tables ∙ (h.mapped at).tables; graph = graph_agree (h.mapped at).graph };
    ordered = λ at. ordered_agree at (h.ordered at);
  }

-- 2. first parts, and what a call left of them put back

module _ {N : Type 0} (n : Lent) (whole : Memory N) where
  abbrev pub first_of : Memory N
  first_of = memory (take n.rows whole.rows) (take n.tables whole.tables) (take n.edges whole.edges) (take n.vertices whole.vertices) (take n.heap whole.heap) (take n.ordered whole.ordered) (take n.slots whole.slots)

  abbrev pub put_back : Memory N → Memory N
  put_back l = memory (l.rows ++ drop n.rows whole.rows) (l.tables ++ drop n.tables whole.tables) (l.edges ++ drop n.edges whole.edges) (l.vertices ++ drop n.vertices whole.vertices) (l.heap ++ drop n.heap whole.heap) (l.ordered ++ drop n.ordered whole.ordered) (l.slots ++ drop n.slots whole.slots)

  pub back_same : put_back first_of ≡ whole
  back_same = λ i. memory (take-append-drop n.rows whole.rows i) (take-append-drop n.tables whole.tables i) (take-append-drop n.edges whole.edges i) (take-append-drop n.vertices whole.vertices i) (take-append-drop n.heap whole.heap i) (take-append-drop n.ordered whole.ordered i) (take-append-drop n.slots whole.slots i)

part_long : {X : Type 0} (b n : ℕ) (xs : List X) → b ≤ length (take n xs) → (b ≤ n) × (b ≤ length xs)
part_long b n xs h = (omega (arith, length-take n xs), omega (arith, length-take n xs))

module _ {N : Type 0} (n : Lent) (whole : Memory N) (a : ample (lent (first_of n whole)) ≡ true) where
  cut_long : Ample (lent (first_of n whole))
  cut_long = ample_all (lent (first_of n whole)) a

  pub whole_ample : ample (lent whole) ≡ true
  whole_ample = all_ample (lent whole) (record {
    rows = (part_long 1024 n.rows whole.rows cut_long.rows).1;
    tables = (part_long 12288 n.tables whole.tables cut_long.tables).1;
    edges = (part_long 1024 n.edges whole.edges cut_long.edges).1;
    vertices = (part_long 2048 n.vertices whole.vertices cut_long.vertices).1;
    heap = (part_long 2048 n.heap whole.heap cut_long.heap).1;
    ordered = (part_long 2048 n.ordered whole.ordered cut_long.ordered).1;
    slots = (part_long 1024 n.slots whole.slots cut_long.slots).1;
  })

  agrees : {X : Type 0} (b k : ℕ) (xs : List X) → b ≤ length (take k xs) → take b xs ≡ take b (take k xs)
  agrees b k xs h = sym (take-take b k xs (part_long b k xs h).0)

  pub cut_agrees : Agree whole (first_of n whole)
  cut_agrees = record {
    rows = agrees 1024 n.rows whole.rows cut_long.rows;
    tables = agrees 12288 n.tables whole.tables cut_long.tables;
    edges = agrees 1024 n.edges whole.edges cut_long.edges;
    vertices = agrees 2048 n.vertices whole.vertices cut_long.vertices;
    ordered = agrees 2048 n.ordered whole.ordered cut_long.ordered;
    slots = agrees 1024 n.slots whole.slots cut_long.slots;
  }

module _ {N : Type 0} (n : Lent) (whole l : Memory N) (a : ample (lent l) ≡ true) where
  l_long : Ample (lent l)
  l_long = ample_all (lent l) a

  behind : {X : Type 0} (b : ℕ) (xs ys : List X) → b ≤ length xs → take b xs ≡ take b (xs ++ ys)
  behind b xs ys h = sym (take-append-le b xs ys h)

  pub back_agrees : Agree l (put_back n whole l)
  back_agrees = record {
    rows = behind 1024 l.rows (drop n.rows whole.rows) l_long.rows;
    tables = behind 12288 l.tables (drop n.tables whole.tables) l_long.tables;
    edges = behind 1024 l.edges (drop n.edges whole.edges) l_long.edges;
    vertices = behind 2048 l.vertices (drop n.vertices whole.vertices) l_long.vertices;
    ordered = behind 2048 l.ordered (drop n.ordered whole.ordered) l_long.ordered;
    slots = behind 1024 l.slots (drop n.slots whole.slots) l_long.slots;
  }
