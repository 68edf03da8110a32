-- The order as a relation is the order as computed.
use Rattle.std.proofs.Common.{◌≡◌, ℕ, zero, suc, ◌+◌, ◌*◌, ◌<◌, ◌≤◌, List, [], ◌∷◌, ◌++◌, length, get_or, take, Some, None, Option, sym, refl, ap, ◌∙◌, subst, inl, inr, append_assoc, add-one, arith}
use Rattle.std.proofs.lemmas.Bool.{both_ways, cases_eq}
use Rattle.std.proofs.lemmas.List.{length_push, append-nil, take_at, get_or_at, take_more, take_all}
use Rattle.hashing.specs.Triples.{Triple}
use Rattle.runs.specs.Lists.{among}
use Rattle.runs.specs.Order.{degree, following, grown, order, Next, OrderOf}
use Rattle.runs.specs.Laws.{OneOrder}
use Rattle.runs.proofs.Times.{tally_all, tally_le}
use Rattle.runs.proofs.Ordering.{Lined, lined_push, next_from, following_from, next_waits, order_all}

module _ (next : List ℕ → Option ℕ) where
  -- what is grown begins with what there was
  grown_front : (k : ℕ) (vs : List ℕ) (o : Option ℕ) → (rest : List ℕ) × (grown next k vs o ≡ vs ++ rest)
  grown_front zero vs o = ([], sym (append-nil vs))
  grown_front (suc k) vs None = ([], sym (append-nil vs))
  grown_front (suc k) vs (Some v) =
      let p = grown_front k (vs ++ v ∷ []) (next (vs ++ v ∷ [])) in
      (v ∷ p.0, p.1 ∙ append_assoc vs (v ∷ []) p.0)

  -- each vertex grown is the next after those before it
  grown_next : (k : ℕ) (vs : List ℕ) (o : Option ℕ) → next vs ≡ o → (i : ℕ) → length vs ≤ i → i < length (grown next k vs o) →
      next (take i (grown next k vs o)) ≡ Some (get_or (grown next k vs o) i 0)
  grown_next zero vs o e i a b = absurd (omega arith)
  grown_next (suc k) vs None e i a b = absurd (omega arith)
  grown_next (suc k) vs (Some v) e i a b = elim (cases_eq (length vs) i) [
    | inl q ↦
        let p = grown_front k (vs ++ v ∷ []) (next (vs ++ v ∷ [])) in
        let f : grown next (suc k) vs (Some v) ≡ vs ++ v ∷ p.0 = p.1 ∙ append_assoc vs (v ∷ []) p.0 in
        ap (λ l. next (take i l)) f ∙ ap next (take_at vs (v ∷ p.0) i q) ∙ e ∙
        ap (λ x. Some x) (sym (ap (λ l. get_or l i 0) f ∙ get_or_at vs v p.0 0 i q))
    | inr q ↦ grown_next k (vs ++ v ∷ []) (next (vs ++ v ∷ [])) refl i (omega (arith, length_push vs v)) b
  ]

  -- a list in which each is the next, and after which there is none, is what is grown
  grown_is : (vs : List ℕ) → ((i : ℕ) → i < length vs → next (take i vs) ≡ Some (get_or vs i 0)) → next vs ≡ None →
      (k i : ℕ) → i ≤ length vs → length vs ≤ i + k → (o : Option ℕ) → next (take i vs) ≡ o → grown next k (take i vs) o ≡ vs
  grown_is vs h e zero i a b o q = take_all i vs (omega arith)
  grown_is vs h e (suc k) i a b None q = elim (cases_eq i (length vs)) [
    | inl w ↦ take_all i vs (omega arith)
    | inr w ↦ absurd (let l : i < length vs = omega arith in let z : ◌≡◌ {A = ℕ} 0 1 = cc (h i l) in omega arith)
  ]
  grown_is vs h e (suc k) i a b (Some v) q = elim (cases_eq i (length vs)) [
    | inl w ↦ absurd (let t : take i vs ≡ vs = take_all i vs (omega arith) in let z : ◌≡◌ {A = ℕ} 0 1 = cc (ap next t) in omega arith)
    | inr w ↦
        let l : i < length vs = omega arith in
        let u : get_or vs i 0 ≡ v = cc (h i l) in
        let t : take i vs ++ v ∷ [] ≡ take (suc i) vs = ap (λ x. take i vs ++ x ∷ []) (sym u) ∙ sym (take_more vs i 0 l) ∙ ap (λ j. take j vs) (add-one i) in
        ap (λ ws. grown next k ws (next ws)) t ∙ grown_is vs h e k (suc i) l (omega arith) (next (take (suc i) vs)) refl
  ]

module _ (es : List Triple) (r : ℕ) where
  order_follows : (i : ℕ) → i < length (order es r) → Next es r (take i (order es r)) (get_or (order es r) i 0)
  order_follows i l = next_from es r (take i (order es r)) (get_or (order es r) i 0) (grown_next (following es r) (2 * r) [] (following es r []) refl i (omega arith) l)

  module _ (vs : List ℕ) (h : OrderOf es r vs) where
    lined_upto : (i : ℕ) → i ≤ length vs → Lined (2 * r) (take i vs)
    lined_upto zero l = record { low = tt; apart = λ s. omega arith }
    lined_upto (suc i) l =
        let p = next_waits es r (take i vs) (get_or vs i 0) (h.follows i l) in
        let t : take i vs ++ get_or vs i 0 ∷ [] ≡ take (suc i) vs = sym (take_more vs i 0 l) ∙ ap (λ j. take j vs) (add-one i) in
        subst (Lined (2 * r)) t (lined_push (2 * r) (take i vs) (get_or vs i 0) (lined_upto i (omega arith)) p.0 p.1)

    short : length vs ≤ 2 * r
    short =
        let w : Lined (2 * r) vs = subst (Lined (2 * r)) (take_all (length vs) vs (omega arith)) (lined_upto (length vs) (omega arith)) in
        omega (arith, tally_all (2 * r) vs w.low, tally_le (2 * r) vs w.apart)

    weighs : (ws : List ℕ) (v : ℕ) → Next es r ws v → 0 < degree es v
    weighs ws v (inl b) = b.above_zero
    weighs ws v (inr p) = p.1.above_zero

    none_left : (o : Option ℕ) → following es r vs ≡ o → o ≡ None
    none_left None e = refl
    none_left (Some v) e =
        let n = next_from es r vs v e in
        let p = next_waits es r vs v n in
        absurd (both_ways (among v vs) p.0 (h.complete v p.1 (weighs vs v n)))

    order_unique : vs ≡ order es r
    order_unique = sym (grown_is (following es r) vs (λ i l. following_from es r (take i vs) (get_or vs i 0) (h.follows i l))
        (none_left (following es r vs) refl) (2 * r) 0 (omega arith) (omega (arith, short)) (following es r []) refl)

pub one_order : OneOrder
one_order es r vs =
    (order_unique es r vs, λ e. subst (OrderOf es r) (sym e) (record { follows = order_follows es r; complete = order_all es r }))
