-- What lists that are long enough have room for, and the first of some numbers that passes a test.
use Rattle.std.proofs.Common.{◌≡◌, ℕ, zero, suc, ◌+◌, ◌<◌, ◌≤◌, Bool, true, false, ◌&&◌, leb, is_some, Some, None, Err, Option, sym, refl, ap, ◌∙◌, inl, inr, arith}
use Rattle.std.specs.Option.{ok_or}
use Rattle.std.proofs.lemmas.Bool.{and_parts, and_from, leb-true, le-leb, cases_Bool, cases_eq, both_ways, cond-true, cond-false}
use Rattle.runs.specs.Runs.{Lent, ample}
use Rattle.leveling.specs.Level.{first_where}

pub record Ample (l : Lent) : Type 0 where
  pub rows : 1024 ≤ l.rows
  pub tables : 12288 ≤ l.tables
  pub edges : 1024 ≤ l.edges
  pub vertices : 2048 ≤ l.vertices
  pub heap : 2048 ≤ l.heap
  pub ordered : 2048 ≤ l.ordered
  pub slots : 1024 ≤ l.slots

pub ample_all : (l : Lent) → ample l ≡ true → Ample l
ample_all l h =
    let a = and_parts (leb 1024 l.rows) (leb 12288 l.tables && (leb 1024 l.edges && (leb 2048 l.vertices && (leb 2048 l.heap && (leb 2048 l.ordered && leb 1024 l.slots))))) h in
    let b = and_parts (leb 12288 l.tables) (leb 1024 l.edges && (leb 2048 l.vertices && (leb 2048 l.heap && (leb 2048 l.ordered && leb 1024 l.slots)))) a.1 in
    let c = and_parts (leb 1024 l.edges) (leb 2048 l.vertices && (leb 2048 l.heap && (leb 2048 l.ordered && leb 1024 l.slots))) b.1 in
    let d = and_parts (leb 2048 l.vertices) (leb 2048 l.heap && (leb 2048 l.ordered && leb 1024 l.slots)) c.1 in
    let e = and_parts (leb 2048 l.heap) (leb 2048 l.ordered && leb 1024 l.slots) d.1 in
    let f = and_parts (leb 2048 l.ordered) (leb 1024 l.slots) e.1 in
    record {
      rows = leb-true 1024 l.rows a.0;
      tables = leb-true 12288 l.tables b.0;
      edges = leb-true 1024 l.edges c.0;
      vertices = leb-true 2048 l.vertices d.0;
      heap = leb-true 2048 l.heap e.0;
      ordered = leb-true 2048 l.ordered f.0;
      slots = leb-true 1024 l.slots f.1;
    }

pub all_ample : (l : Lent) → Ample l → ample l ≡ true
all_ample l h =
    and_from (leb 1024 l.rows) _ (le-leb 1024 l.rows h.rows) (
    and_from (leb 12288 l.tables) _ (le-leb 12288 l.tables h.tables) (
    and_from (leb 1024 l.edges) _ (le-leb 1024 l.edges h.edges) (
    and_from (leb 2048 l.vertices) _ (le-leb 2048 l.vertices h.vertices) (
    and_from (leb 2048 l.heap) _ (le-leb 2048 l.heap h.heap) (
    and_from (leb 2048 l.ordered) _ (le-leb 2048 l.ordered h.ordered) (le-leb 1024 l.slots h.slots))))))

-- a refusal by `ok_or` is that of a none
pub ok_or_none : {T E : Type 0} (o : Option T) (e f : E) → Err f ≡ ok_or o e → (o ≡ None) × (f ≡ e)
ok_or_none None e f h = (refl, cc)
ok_or_none (Some x) e f h = absurd cc

-- two tests that are met together
pub same_test : (a b : Bool) → (a ≡ true → b ≡ true) → (b ≡ true → a ≡ true) → a ≡ b
same_test true b f g = sym (f refl)
same_test false b f g = elim (cases_Bool b) [ inl t ↦ g t ∙ sym t | inr t ↦ sym t ]

module _ (p : ℕ → Bool) where
  -- where a number passes, the first that does
  pub first_found : (k i a : ℕ) → i ≤ a → a < i + k → p a ≡ true → (b : ℕ) × (b < i + k) × (first_where p k i ≡ Some b) × (p b ≡ true)
  first_found zero i a l u h = absurd (omega arith)
  first_found (suc k) i a l u h = elim (cases_Bool (p i)) [
    | inl t ↦ (i, omega arith, cond-true (p i) (Some i) (first_where p k (suc i)) t, t)
    | inr t ↦ elim (cases_eq i a) [
      | inl e ↦ absurd (both_ways (p i) t (ap p e ∙ h))
      | inr e ↦
          let q = first_found k (suc i) a (omega arith) (omega arith) h in
          (q.0, omega (arith, q.1), cond-false (p i) (Some i) (first_where p k (suc i)) t ∙ q.2, q.3)
    ]
  ]

  pub first_passes : (k i : ℕ) → is_some (first_where p k i) ≡ true → (b : ℕ) × (b < i + k) × (p b ≡ true)
  first_passes zero i h = absurd (both_ways false refl h)
  first_passes (suc k) i h = elim (cases_Bool (p i)) [
    | inl t ↦ (i, omega arith, t)
    | inr t ↦
        let q = first_passes k (suc i) (sym (ap is_some (cond-false (p i) (Some i) (first_where p k (suc i)) t)) ∙ h) in
        (q.0, omega (arith, q.1), q.2)
  ]
