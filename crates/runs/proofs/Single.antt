-- In a lawful plate a find is one look; so a run has one plate.
use Rattle.std.proofs.Common.{◌≡◌, ℕ, ◌+◌, ◌<◌, Bool, true, false, cond, List, length, get_or, Some, None, sym, refl, ap, ◌∙◌, mod-lt, arith}
use Rattle.std.proofs.lemmas.List.FromFn.{fill_by_all}
use Rattle.std.proofs.lemmas.List.{same_lists}
use Rattle.std.proofs.lemmas.Bool.{cond-true}
use Rattle.hashing.specs.Generator.{tables}
use Rattle.hashing.specs.Triples.{triple}
use Rattle.runs.specs.Fitting.{slot}
use Rattle.std.specs.Str.{bytes_eq}
use Rattle.runs.specs.Runs.{Run}
use Rattle.runs.specs.Plates.{Entry, Plate, Lawful, slot_of, find, one_look}
use Rattle.runs.specs.Laws.{PlateOf}
use Rattle.runs.proofs.Distinct.{same_true, same_refl}
use Rattle.runs.proofs.Records.{records_answer}

pub found_once : (Spelled : List ℕ → Type 0) (p : Plate) → Lawful Spelled p → (s : List ℕ) (d : Entry) →
    find p.records s ≡ one_look (get_or p.records (slot_of p s) d) s
found_once Spelled p h s d =
    ap (λ l. find l s) (fill_by_all f p.records n d refl (λ k l. refl)) ∙
    records_answer (slot_of p) s f n 0 (λ k a b. h.in_slot k d (omega arith)) (omega arith) (omega (arith, mod-lt (sum s) h.some_name))
  where
    n : ℕ
    n = length p.records

    f : ℕ → Entry
    f k = get_or p.records k d

    sum : List ℕ → ℕ
    sum s = (triple (tables p.seed) n p.r s).h0 + get_or p.values (triple (tables p.seed) n p.r s).h1 0 + get_or p.values (triple (tables p.seed) n p.r s).h2 0

answer_same : (e f : Entry) → one_look f e.spelling ≡ Some e.setting → f ≡ e
answer_same e f h = go (bytes_eq f.spelling e.spelling) refl h
  where
    go : (b : Bool) → bytes_eq f.spelling e.spelling ≡ b → cond b (Some f.setting) None ≡ Some e.setting → f ≡ e
    go false q k = absurd cc
    go true q k =
        let a : f.spelling ≡ e.spelling = same_true f.spelling e.spelling q in
        let b : f.setting ≡ e.setting = cc in
        λ i. record { spelling = a i; setting = b i }

module _ {N : Type 0} (spelling : N → List ℕ) (m : Run N) (p q : Plate) (hp : PlateOf spelling m p) (hq : PlateOf spelling m q) where
  same_count : length p.records ≡ length q.records
  same_count = hp.counts ∙ sym hq.counts

  same_slot : (s : List ℕ) → slot_of q s ≡ slot_of p s
  same_slot s =
      let n : length q.records ≡ length p.records = sym same_count in
      let r : q.r ≡ p.r = hq.same_r ∙ sym hp.same_r in
      let t : q.seed ≡ p.seed = hq.same_seed ∙ sym hp.same_seed in
      let v : q.values ≡ p.values = hq.same_values ∙ sym hp.same_values in
      λ i. slot (n i) (v i) (triple (tables (t i)) (n i) (r i) s)

  record_same : (k : ℕ) (d : Entry) → k < length p.records → get_or p.records k d ≡ get_or q.records k d
  record_same k d l = sym (answer_same e (get_or q.records k d)
      (ap (λ j. one_look (get_or q.records j d) e.spelling) (sym at) ∙ sym (found_once _ q hq.lawful e.spelling d) ∙
      hq.finds e.spelling ∙ sym (hp.finds e.spelling) ∙ found_once _ p hp.lawful e.spelling d ∙
      ap (λ j. one_look (get_or p.records j d) e.spelling) (hp.lawful.in_slot k d l) ∙
      cond-true (bytes_eq e.spelling e.spelling) (Some e.setting) None (same_refl e.spelling)))
    where
      e : Entry
      e = get_or p.records k d

      at : slot_of q e.spelling ≡ k
      at = same_slot e.spelling ∙ hp.lawful.in_slot k d l

pub one_plate : {N : Type 0} (spelling : N → List ℕ) (m : Run N) (p q : Plate) → PlateOf spelling m p → PlateOf spelling m q → p ≡ q
one_plate spelling m p q hp hq =
    let a : p.r ≡ q.r = hp.same_r ∙ sym hq.same_r in
    let b : p.seed ≡ q.seed = hp.same_seed ∙ sym hq.same_seed in
    let c : p.values ≡ q.values = hp.same_values ∙ sym hq.same_values in
    let d : p.records ≡ q.records = same_lists p.records q.records (same_count spelling m p q hp hq) (record_same spelling m p q hp hq) in
    λ i. record { r = a i; seed = b i; values = c i; records = d i }
