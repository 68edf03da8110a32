-- Equal triples, found along the chains.
use Rattle.std.proofs.Common.{◌≡◌, ℕ, zero, suc, ◌-◌, ◌<◌, Bool, true, false, ◌&&◌, eqb, List, [], ◌∷◌, length, get_or, take, sym, refl, ap, ◌∙◌, subst, inl, inr, arith}
use Rattle.std.specs.Bool.{MatchBool}
use Rattle.std.specs.List.{AllWithin, HoldsAt, range_with_len}
use Rattle.std.proofs.lemmas.List.FromFn.{length-range_with_len, get_or-range_with_len}
use Rattle.std.proofs.lemmas.Bool.{cases_eq, cases_Bool, eq-eqb, ne_eqb, or_left, or_right, or_from, and_left, and_right}
use Rattle.std.proofs.lemmas.List.{length-take-le}
use Rattle.hashing.specs.Triples.{Triple}
use Rattle.runs.specs.Lists.{has}
use Rattle.runs.specs.Runs.{same_triple}
use Rattle.graph.specs.declared.rows.Edge.{Edge}
use Rattle.graph.specs.Chains.{nil, of_tuple, same1, Edges, link, Repeats, clashes}
use Rattle.graph.specs.Walks.{walk, walk_below, rows_where}
use Rattle.graph.proofs.Walked.{walk_taken, walk_same, listed_passes, passing_listed}

eqb_sym : (a b : ℕ) → eqb a b ≡ eqb b a
eqb_sym a b = elim (cases_eq a b) [
  | inl e ↦ eq-eqb a b e ∙ sym (eq-eqb b a (sym e))
  | inr e ↦ ne_eqb a b e ∙ sym (ne_eqb b a (λ q. e (sym q)))
]

same_sym : (a b : Triple) → same_triple a b ≡ same_triple b a
same_sym a b = λ k. eqb_sym a.h0 b.h0 k && (eqb_sym a.h1 b.h1 k && eqb_sym a.h2 b.h2 k)

has_at : (a : Triple) (xs : List Triple) (j : ℕ) → j < length xs → same_triple a (get_or xs j nil) ≡ true → has same_triple a xs ≡ true
has_at a [] j l h = absurd (omega arith)
has_at a (x ∷ xs) zero l h = or_left (same_triple a x) (has same_triple a xs) h
has_at a (x ∷ xs) (suc j) l h = or_right (same_triple a x) (has same_triple a xs) (has_at a xs j (omega arith) h)

has_none : (a : Triple) (xs : List Triple) → ((j : ℕ) → j < length xs → same_triple a (get_or xs j nil) ≡ false) → has same_triple a xs ≡ false
has_none a [] h = refl
has_none a (x ∷ xs) h = or_from (same_triple a x) (has same_triple a xs) (h 0 (omega arith)) (has_none a xs (λ j l. h (suc j) (omega arith)))

pub clash_at : (es : List Triple) (i j : ℕ) → j < i → i < length es → same_triple (get_or es i nil) (get_or es j nil) ≡ true → clashes es ≡ true
clash_at [] i j a b h = absurd (omega arith)
clash_at (e ∷ es) zero j a b h = absurd (omega arith)
clash_at (e ∷ es) (suc i) zero a b h = or_left (has same_triple e es) (clashes es) (has_at e es i (omega arith) (same_sym e (get_or es i nil) ∙ h))
clash_at (e ∷ es) (suc i) (suc j) a b h = or_right (has same_triple e es) (clashes es) (clash_at es i j (omega arith) (omega arith) h)

pub clash_none : (es : List Triple) → ((i j : ℕ) → j < i → i < length es → same_triple (get_or es i nil) (get_or es j nil) ≡ false) → clashes es ≡ false
clash_none [] h = refl
clash_none (e ∷ es) h = or_from (has same_triple e es) (clashes es)
    (has_none e es (λ j l. same_sym e (get_or es j nil) ∙ h (suc j) 0 (omega arith) (omega arith)))
    (clash_none es (λ i j a b. h (suc i) (suc j) (omega arith) (omega arith)))

apart_first : (es : List Triple) (i j : ℕ) → same1 es i j ≡ false → same_triple (get_or es i nil) (get_or es j nil) ≡ false
apart_first es i j h = and_right (eqb (get_or es i nil).h0 (get_or es j nil).h0) _ (and_left (eqb (get_or es i nil).h1 (get_or es j nil).h1) (eqb (get_or es i nil).h2 (get_or es j nil).h2) h)

-- two edges have one triple
abbrev pub alike_edges : Edge → Edge → Bool
alike_edges e f = same_triple (of_tuple (e.h0, e.h1, e.h2)) (of_tuple (f.h0, f.h1, f.h2))

module _ (es : List Triple) (edges : List Edge) (i : ℕ) (l : i < length es) (h : Edges es edges) where
  same_rows : (j : ℕ) → j < i → alike_edges (link edges i) (link edges j) ≡ same_triple (get_or es i nil) (get_or es j nil)
  same_rows j m =
      let x = h i l in
      let y = h j (omega arith) in
      λ k. eqb (x.h0 k) (y.h0 k) && (eqb (x.h1 k) (y.h1 k) && eqb (x.h2 k) (y.h2 k))

  abbrev met : List (ℕ × Edge)
  met = rows_where (same1 es i) edges i

  abbrev Finds : List (ℕ × Edge) → Bool → Type 0
  Finds xs t = MatchBool t ((k : ℕ) × (k < length xs) × HoldsAt (λ p. alike_edges (link edges i) p.1 ≡ true) xs k) (AllWithin (λ p. alike_edges (link edges i) p.1 ≡ false) xs 0 (length xs))

  repeats_is : (t : Bool) → Finds met t → Repeats es i t
  repeats_is true f =
      let q = listed_passes (same1 es i) edges i f.0 f.1 in
      (q.0, q.1, sym (same_rows q.0 q.1) ∙ sym (ap (λ (p : ℕ × Edge). alike_edges (link edges i) p.1) (q.3 (0, link edges 0))) ∙ f.2 (0, link edges 0))
  repeats_is false f = λ j m. elim (cases_Bool (same1 es i j)) [
    | inl e ↦
        let q = passing_listed (same1 es i) edges i j m e in
        sym (same_rows j m) ∙ sym (ap (λ (p : ℕ × Edge). alike_edges (link edges i) p.1) (q.2 (0, link edges 0))) ∙ f q.0 (0, link edges 0) (omega arith) q.1
    | inr e ↦ apart_first es i j e
  ]

  -- what a walk over the edges before i finds
  pub repeats_from : i < length edges → (before : List Edge) (at : ℕ) (low : Bool) → (before ≡ take (i - 0) edges) × (at ≡ (link edges i).next1) × (low ≡ true) → (t : Bool) → Finds (walk low before at) t → Repeats es i t
  repeats_from there before at low starts t f =
      let z : i - 0 ≡ i = omega arith in
      let long : length (take i edges) ≡ i = length-take-le i edges (omega arith) in
      let is : walk low before at ≡ met =
      ap (λ xs. walk low xs at) starts.0 ∙ ap (λ k. walk low (take k edges) at) z ∙ ap (λ a. walk low (take i edges) a) starts.1 ∙ ap (λ b. walk b (take i edges) (link edges i).next1) starts.2 ∙
      ap (λ k. walk_below true (take i edges) k (link edges i).next1) long ∙ walk_taken true edges i i (link edges i).next1 (omega arith) ∙ walk_same es edges h i l in
      repeats_is t (subst (λ xs. Finds xs t) is f)

-- the edges that are tried one after the other
module _ (edges : List Edge) where
  abbrev pub Told : Bool → ℕ → Type 0
  Told t i = (es : List Triple) → i < length es → Edges es edges → Repeats es i t

  module _ (es : List Triple) (n : ℕ) (long : length es ≡ n) (h : Edges es edges) where
    at_turn : (i : ℕ) → i < n → get_or (range_with_len 0 n) i 0 ≡ i
    at_turn i l = get_or-range_with_len 0 n i 0 l ∙ omega arith

    pub clashes_is : (t : Bool) → MatchBool t ((k : ℕ) × (k < length (range_with_len 0 n)) × HoldsAt (Told true) (range_with_len 0 n) k) (AllWithin (Told false) (range_with_len 0 n) 0 (length (range_with_len 0 n))) → t ≡ clashes es
    clashes_is true f =
        let l : f.0 < n = omega (arith, f.1, length-range_with_len 0 n) in
        let p = subst (Told true) (at_turn f.0 l) (f.2 0) es (omega arith) h in
        sym (clash_at es f.0 p.0 p.1 (omega arith) p.2)
    clashes_is false f = sym (clash_none es (λ i j a b. subst (Told false) (at_turn i (omega arith)) (f i 0 (omega arith) (omega (arith, length-range_with_len 0 n))) es b h j a))
