-- The work of map and order over lists that are long enough.
use Rattle.std.proofs.Common.{◌≡◌, ℕ, ◌≤◌, Bool, not, leb, List, [], ◌∷◌, ◌++◌, length, take, drop, Ok, Err, Result, sym, ap, ◌∙◌, subst, arith}
use Rattle.std.proofs.lemmas.List.{take-append-le, take_all, length-map, length-take-le}
use Rattle.std.proofs.lemmas.Bool.{cond-true, le-leb}
use Rattle.refusals.specs.Checks.{unless, first, with_value, Told}
use Rattle.hashing.specs.declared.fault.HashFault.{HashFault}
use Rattle.hashing.specs.declared.fault.HashFault.TheVariants.{ShortTables}
use Rattle.hashing.specs.Faults.{room_fault}
use Rattle.hashing.specs.Filling.{filled}
use Rattle.hashing.specs.Generator.{tables as tables_of}
use Rattle.hashing.specs.Triples.{Triple}
use Rattle.hashing.proofs.Drawing.{length_tables}
use Rattle.graph.specs.declared.rows.Row.{Row}
use Rattle.graph.specs.declared.rows.Edge.{Edge}
use Rattle.graph.specs.declared.rows.Vertex.{Vertex}
use Rattle.graph.specs.Chains.{Edges, Graph, clashes}
use Rattle.graph.specs.Mapping.{row_triples, MapWritten}
use Rattle.runs.specs.declared.fault.PressFault.{PressFault}
use Rattle.runs.specs.declared.fault.PressFault.TheVariants.{Clash}
use Rattle.pressing.specs.Work.{MapWorked}

-- 1. tables

filled_is : (seed : ℕ) (tables : List ℕ) → 12288 ≤ length tables → filled seed tables ≡ tables_of seed ++ drop 12288 tables
filled_is seed tables h = cond-true (leb 12288 (length tables)) _ _ (le-leb 12288 (length tables) h)

pub never_short : (tables : List ℕ) (o : Result (Unit {0}) HashFault) (f : HashFault) → 12288 ≤ length tables → Told (room_fault (length tables) ∷ []) tt o → o ≡ Err f → ⊥
never_short tables o f h t e =
    let q : o ≡ Ok tt = t.is ∙ ap (λ b. with_value (first (unless b ShortTables ∷ [])) tt) (le-leb 12288 (length tables) h) in
    cc

drawn_part : (seed : ℕ) (rest : List ℕ) → take 12288 (tables_of seed ++ rest) ≡ tables_of seed
drawn_part seed rest = take-append-le 12288 (tables_of seed) rest (omega (arith, length_tables seed)) ∙ take_all 12288 (tables_of seed) (omega (arith, length_tables seed))

-- 2. map

module _ {N : Type 0} (spelling : N → List ℕ) (n r seed : ℕ) (rows : List (Row N)) (tables tables' : List ℕ) (edges edges' : List Edge) (vertices vertices' : List Vertex)
    (few : n ≤ 1024) (there : 1024 ≤ length rows) (long : 12288 ≤ length tables) (wrote : tables' ≡ filled seed tables) where
  abbrev es : List Triple
  es = row_triples spelling (tables_of seed) n r (take n rows)

  is_drawn : tables' ≡ tables_of seed ++ drop 12288 tables
  is_drawn = wrote ∙ filled_is seed tables long

  same_part : take 12288 tables' ≡ tables_of seed
  same_part = ap (take 12288) is_drawn ∙ drawn_part seed (drop 12288 tables)

  module _ {fits : Bool} (count : ℕ) (is : count ≡ n) (w : MapWritten fits (row_triples spelling (take 12288 tables') n r (take count rows)) count r edges edges' vertices vertices')
      (b : Bool) (told : (es : List Triple) → length es ≡ count → Edges es edges' → b ≡ clashes es) where
    same_es : row_triples spelling (take 12288 tables') n r (take count rows) ≡ es
    same_es = ap (λ t. row_triples spelling t n r (take count rows)) same_part ∙ ap (λ k. row_triples spelling (tables_of seed) n r (take k rows)) is

    graph : Graph es r edges' vertices'
    graph = subst (λ xs. Graph xs r edges' vertices') same_es w.graph

    clashed : b ≡ clashes es
    clashed = told es (length-map (take n rows) _ ∙ length-take-le n rows (omega arith) ∙ sym is) graph.edge

    pub map_worked : (o : Result (Unit {0}) PressFault) → o ≡ with_value (unless (not b) Clash) tt → MapWorked spelling n r seed rows tables tables' edges edges' vertices vertices' o
    map_worked o e = record {
      tables_drawn = is_drawn;
      graph = graph;
      edges_past = subst (λ k. drop k edges' ≡ drop k edges) is w.edges_past;
      vertices_past = w.vertices_past;
      answer = e ∙ ap (λ c. with_value (unless (not c) Clash) tt) clashed;
    }
