-- One write more.
use Rattle.std.proofs.Common.{◌≡◌, ℕ, ◌+◌, ◌<◌, ◌≤◌, ◌&&◌, ltb, leb, List, length, get_or, None, Option, sym, ap, ◌∙◌, add-one}
use Rattle.std.proofs.lemmas.Bool.{lt-ltb, le-leb, and_from, cond-true}
use Rattle.runs.specs.Plates.{two}
use Rattle.graph.specs.declared.rows.Row.{Row}
use Rattle.graph.specs.declared.rows.Vertex.{Vertex}
use Rattle.graph.specs.Chains.{row}
use Rattle.fields.specs.Writing.{written, written_if}
use Rattle.fields.specs.Parts.{value_place}
use Rattle.sealing.specs.Sealing.{values_written, slot_written, records_written}

-- a write whose two tests are met
met : {m' : List ℕ} (m : List ℕ) (at i to end : ℕ) (xs : List ℕ) → i < to → end ≤ length m → m' ≡ written_if (ltb i to && leb end (length m)) at xs m → m' ≡ written at xs m
met m at i to end xs h l e =
    e ∙ cond-true (ltb i to && leb end (length m)) (written at xs m) m (and_from (ltb i to) (leb end (length m)) (lt-ltb i to h) (le-leb end (length m) l))

pub value_more : {m' : List ℕ} (m : List ℕ) (vertices : List Vertex) (v : ℕ) (old : List ℕ) → v < 2048 → value_place v + 2 ≤ length m → m ≡ values_written vertices v old →
    m' ≡ written_if (ltb v 2048 && leb (value_place v + 2) (length m)) (value_place v) (two (row vertices v).value) m → m' ≡ values_written vertices (v + 1) old
value_more m vertices v old h l p q =
    met m (value_place v) v 2048 (value_place v + 2) (two (row vertices v).value) h l q ∙
    ap (written (value_place v) (two (row vertices v).value)) p ∙
    ap (λ k. values_written vertices k old) (sym (add-one v))

module _ {N : Type 0} (spell : N → List ℕ) (rows : List (Row N)) where
  pub record_more : {m m' : List ℕ} (slots : List (Option ℕ)) (r k : ℕ) (old : List ℕ) → m ≡ records_written spell rows slots r k old →
      m' ≡ slot_written spell rows r k (get_or slots k None) m → m' ≡ records_written spell rows slots r (k + 1) old
  record_more slots r k old p q =
      q ∙ ap (slot_written spell rows r k (get_or slots k None)) p ∙ ap (λ j. records_written spell rows slots r j old) (sym (add-one k))
