-- The worked figures, computed. The graph of the six names is computed once, and the fits over it.
use Rattle.std.proofs.Common.{◌≡◌, ℕ, suc, cond, eqb, List, [], ◌∷◌, ◌++◌, map, length, get_or, take, set, replicate, is_some, Some, None, Ok, Err, Option, refl, ap, ◌∙◌, ap₂}
use Rattle.refusals.specs.Checks.{unless, first}
use Rattle.hashing.specs.Generator.{tables}
use Rattle.hashing.specs.Triples.{Triple}
use Rattle.ways.specs.Permutation.{Meaning, asked}
use Rattle.ways.specs.Stride.{stride_meaning}
use Rattle.runs.specs.declared.stage.Stage.{Stage}
use Rattle.runs.specs.declared.stage.Stage.TheVariants.{Open, Mapped, Ordered, Fitted}
use Rattle.runs.specs.declared.fault.PressFault.{PressFault}
use Rattle.runs.specs.declared.fault.PressFault.TheVariants.{WrongStage, ShortList, WaySize, Unfit}
use Rattle.runs.specs.Answers.{Answer}
use Rattle.runs.specs.declared.answer.Outcome.TheVariants as answered
use Rattle.runs.specs.Order.{order}
use Rattle.runs.specs.Fitting.{slot, level_of, offset, turned, first_fit}
use Rattle.runs.specs.Runs.{Call, enter, map_to, order_by, fit, seal, Run, is, ample, graph, triples, unless_refused, with_level, step, beginning, continued, reckoned, fit_answer, answer, answers, sealed_string}
use Rattle.figures.specs.Figures.{one_string}
use Rattle.figures.specs.Six.{lent, six_triples, bytes, six_names, six_ordered, fits, six_fitted, stages, one_name}

-- 1. a fit, with the graph as an argument of its own

module _ (es : List Triple) (m : Run (List ℕ)) (w : Meaning) where
  abbrev at : ℕ
  at = get_or (order es m.r) m.level 0

  abbrev level : List ℕ
  level = map (offset (length m.names) m.values at) (level_of es (take m.level (order es m.r)) at)

  abbrev hit : Option (ℕ × ℕ)
  hit = first_fit (length m.names) (asked w m.level) m.filled level (length m.names) 0

  abbrev fault : Option PressFault
  fault = first (unless (is m.stage Ordered) WrongStage ∷ unless (ample lent) ShortList ∷ unless (eqb w.size (length m.names)) WaySize ∷ unless (is_some hit) (Unfit m.level) ∷ [])

  abbrev after : Option (ℕ × ℕ) → Run (List ℕ)
  after None = m
  after (Some (v, tries)) = record {
    stage = cond (eqb (suc m.level) (length (order es m.r))) Fitted Ordered;
    names = m.names;
    r = m.r;
    seed = m.seed;
    level = suc m.level;
    values = set m.values at v;
    filled = m.filled ++ turned (length m.names) v level;
  }

  abbrev known_step : Run (List ℕ)
  known_step = unless_refused fault (after hit) (λ f. m)

  abbrev known_answer : Answer
  known_answer = unless_refused fault (Ok (fit_answer hit)) (λ f. Err f)

step_after : (m : Run (List ℕ)) (o : Option (ℕ × ℕ)) (f : Option PressFault) → unless_refused f (with_level bytes m o) (λ f. m) ≡ unless_refused f (after (graph bytes m) m (stride_meaning 1 0 1) o) (λ f. m)
step_after m None f = refl
step_after m (Some x) f = refl

same_step : (m : Run (List ℕ)) (w : Meaning) → step bytes m (fit lent w) ≡ known_step (graph bytes m) m w
same_step m w = step_after m (hit (graph bytes m) m w) (fault (graph bytes m) m w)

same_answer : (m : Run (List ℕ)) (w : Meaning) → answer bytes m (fit lent w) ≡ known_answer (graph bytes m) m w
same_answer m w = refl

-- 2. calls that go from one run to another

record Goes (m : Run (List ℕ)) (cs : List (Call (List ℕ))) (rs : List Answer) (ss : List Stage) (end : Run (List ℕ)) : Type 0 where
  answers_so : answers bytes m cs ≡ rs
  stages_so : stages m cs ≡ ss
  ends : continued bytes m cs ≡ end

stay : (m : Run (List ℕ)) → Goes m [] [] [] m
stay m = record { answers_so = refl; stages_so = refl; ends = refl }

go_on : (m k : Run (List ℕ)) (c : Call (List ℕ)) (a : Answer) → answer bytes m c ≡ a → step bytes m c ≡ k →
    (cs : List (Call (List ℕ))) (rs : List Answer) (ss : List Stage) (end : Run (List ℕ)) → Goes k cs rs ss end → Goes m (c ∷ cs) (a ∷ rs) (k.stage ∷ ss) end
go_on m k c a e f cs rs ss end h = record {
  answers_so = ap₂ (λ x xs. x ∷ xs) e (ap (λ n. answers bytes n cs) f ∙ h.answers_so);
  stages_so = ap₂ (λ x xs. x ∷ xs) (ap (λ (n : Run (List ℕ)). n.stage) f) (ap (λ n. stages n cs) f ∙ h.stages_so);
  ends = ap (λ n. continued bytes n cs) f ∙ h.ends;
}

go_fit : (m k : Run (List ℕ)) (w : Meaning) (es : List Triple) (a : Answer) → graph bytes m ≡ es → known_answer es m w ≡ a → known_step es m w ≡ k →
    (cs : List (Call (List ℕ))) (rs : List Answer) (ss : List Stage) (end : Run (List ℕ)) → Goes k cs rs ss end → Goes m (fit lent w ∷ cs) (a ∷ rs) (k.stage ∷ ss) end
go_fit m k w es a g e f =
    go_on m k (fit lent w) a (same_answer m w ∙ ap (λ x. known_answer x m w) g ∙ e) (same_step m w ∙ ap (λ x. known_step x m w) g ∙ f)

-- 3. the six names

abbrev rows : List (List ℕ × ℕ)
rows = (78 ∷ 51 ∷ [], 1) ∷ (78 ∷ 53 ∷ 49 ∷ [], 2) ∷ (78 ∷ 56 ∷ 49 ∷ [], 3) ∷ (78 ∷ 57 ∷ 51 ∷ [], 4) ∷ (78 ∷ 51 ∷ 50 ∷ [], 5) ∷ (78 ∷ 57 ∷ 48 ∷ [], 6) ∷ []

abbrev six : Stage → ℕ → List ℕ → List ℕ → Run (List ℕ)
six s level values filled = record { stage = s; names = rows; r = 3; seed = 1; level = level; values = values; filled = filled }

six_graph : triples bytes rows 3 1 ≡ six_triples
unfolding tables
six_graph = refl

abbrev way : ℕ → Meaning
way start = stride_meaning 6 start 1

level_goes : (start l : ℕ) (us fs : List ℕ) (a : Answer) (s : Stage) (k : ℕ) (vs gs : List ℕ) →
    known_answer six_triples (six Ordered l us fs) (way start) ≡ a → known_step six_triples (six Ordered l us fs) (way start) ≡ six s k vs gs →
    (cs : List (Call (List ℕ))) (rs : List Answer) (ss : List Stage) (end : Run (List ℕ)) → Goes (six s k vs gs) cs rs ss end →
    Goes (six Ordered l us fs) (fit lent (way start) ∷ cs) (a ∷ rs) (s ∷ ss) end
level_goes start l us fs a s k vs gs e f = go_fit (six Ordered l us fs) (six s k vs gs) (way start) six_triples a six_graph e f

abbrev zeros : List ℕ
zeros = 0 ∷ 0 ∷ 0 ∷ 0 ∷ 0 ∷ 0 ∷ []

abbrev entries : List (Call (List ℕ))
entries = map (λ x. enter lent x.0 x.1) rows

opened : Run (List ℕ)
opened = record { stage = Open; names = rows; r = 0; seed = 0; level = 0; values = []; filled = [] }

six_entered : Goes beginning entries (map (λ x. Ok answered.Entered) rows) (map (λ x. Open) rows) opened
unfolding opened
six_entered = record { answers_so = refl; stages_so = refl; ends = refl }

six_mapped : (answer bytes opened (map_to lent 3 1) ≡ Ok answered.Mapped) × (step bytes opened (map_to lent 3 1) ≡ six Mapped 0 [] [])
unfolding tables opened
six_mapped = (refl, refl)

six_order : answer bytes (six Mapped 0 [] []) (order_by lent) ≡ Ok (answered.Ordered 5)
six_order = ap (λ es. Ok (answered.Ordered (length (order es 3)))) six_graph

then : (m k end : Run (List ℕ)) (cs ds : List (Call (List ℕ))) (qs rs : List Answer) (ts ss : List Stage) → Goes m cs qs ts k → Goes k ds rs ss end → Goes m (cs ++ ds) (qs ++ rs) (ts ++ ss) end
then m k end cs ds qs rs ts ss h j = record {
  answers_so = answers_append m cs ∙ ap₂ (λ x y. x ++ y) h.answers_so (ap (λ n. answers bytes n ds) h.ends ∙ j.answers_so);
  stages_so = stages_append m cs ∙ ap₂ (λ x y. x ++ y) h.stages_so (ap (λ n. stages n ds) h.ends ∙ j.stages_so);
  ends = continued_append m cs ∙ ap (λ n. continued bytes n ds) h.ends ∙ j.ends;
}
  where
    answers_append : (m : Run (List ℕ)) (cs : List (Call (List ℕ))) → answers bytes m (cs ++ ds) ≡ answers bytes m cs ++ answers bytes (continued bytes m cs) ds
    answers_append m [] = refl
    answers_append m (c ∷ cs) = ap (λ l. answer bytes m c ∷ l) (answers_append (step bytes m c) cs)

    stages_append : (m : Run (List ℕ)) (cs : List (Call (List ℕ))) → stages m (cs ++ ds) ≡ stages m cs ++ stages (continued bytes m cs) ds
    stages_append m [] = refl
    stages_append m (c ∷ cs) = ap (λ l. (step bytes m c).stage ∷ l) (stages_append (step bytes m c) cs)

    continued_append : (m : Run (List ℕ)) (cs : List (Call (List ℕ))) → continued bytes m (cs ++ ds) ≡ continued bytes (continued bytes m cs) ds
    continued_append m [] = refl
    continued_append m (c ∷ cs) = continued_append (step bytes m c) cs

abbrev ready : Run (List ℕ)
ready = six Ordered 0 zeros []

six_go : Goes beginning six_names (map (λ x. Ok answered.Entered) rows ++ Ok answered.Mapped ∷ Ok (answered.Ordered 5) ∷ []) (map (λ x. Open) rows ++ Mapped ∷ Ordered ∷ []) ready
six_go =
    then beginning opened ready entries (map_to lent 3 1 ∷ order_by lent ∷ []) (map (λ x. Ok answered.Entered) rows) (Ok answered.Mapped ∷ Ok (answered.Ordered 5) ∷ []) (map (λ x. Open) rows) (Mapped ∷ Ordered ∷ []) six_entered
    (go_on opened (six Mapped 0 [] []) (map_to lent 3 1) (Ok answered.Mapped) six_mapped.0 six_mapped.1 (order_by lent ∷ []) (Ok (answered.Ordered 5) ∷ []) (Ordered ∷ []) ready
    (go_on (six Mapped 0 [] []) ready (order_by lent) (Ok (answered.Ordered 5)) six_order refl [] [] [] ready (stay ready)))

-- 4. the fits by a way of start 1, and of start 0

abbrev done : Run (List ℕ)
done = six Fitted 5 (5 ∷ 0 ∷ 0 ∷ 1 ∷ 0 ∷ 2 ∷ []) (0 ∷ 2 ∷ 5 ∷ 3 ∷ 4 ∷ 1 ∷ [])

fits_go : Goes ready (fits 1 5)
    (Ok (answered.Fitted 0 1) ∷ Ok (answered.Fitted 1 1) ∷ Ok (answered.Fitted 2 1) ∷ Ok (answered.Fitted 5 3) ∷ Ok (answered.Fitted 0 3) ∷ [])
    (Ordered ∷ Ordered ∷ Ordered ∷ Ordered ∷ Fitted ∷ []) done
fits_go =
    level_goes 1 0 zeros [] (Ok (answered.Fitted 0 1)) Ordered 1 zeros [] refl refl _ _ _ _
    (level_goes 1 1 zeros [] (Ok (answered.Fitted 1 1)) Ordered 2 (0 ∷ 0 ∷ 0 ∷ 1 ∷ 0 ∷ 0 ∷ []) (0 ∷ 2 ∷ []) refl refl _ _ _ _
    (level_goes 1 2 (0 ∷ 0 ∷ 0 ∷ 1 ∷ 0 ∷ 0 ∷ []) (0 ∷ 2 ∷ []) (Ok (answered.Fitted 2 1)) Ordered 3 (0 ∷ 0 ∷ 0 ∷ 1 ∷ 0 ∷ 2 ∷ []) (0 ∷ 2 ∷ 5 ∷ []) refl refl _ _ _ _
    (level_goes 1 3 (0 ∷ 0 ∷ 0 ∷ 1 ∷ 0 ∷ 2 ∷ []) (0 ∷ 2 ∷ 5 ∷ []) (Ok (answered.Fitted 5 3)) Ordered 4 (5 ∷ 0 ∷ 0 ∷ 1 ∷ 0 ∷ 2 ∷ []) (0 ∷ 2 ∷ 5 ∷ 3 ∷ 4 ∷ []) refl refl _ _ _ _
    (level_goes 1 4 (5 ∷ 0 ∷ 0 ∷ 1 ∷ 0 ∷ 2 ∷ []) (0 ∷ 2 ∷ 5 ∷ 3 ∷ 4 ∷ []) (Ok (answered.Fitted 0 3)) Fitted 5 (5 ∷ 0 ∷ 0 ∷ 1 ∷ 0 ∷ 2 ∷ []) (0 ∷ 2 ∷ 5 ∷ 3 ∷ 4 ∷ 1 ∷ []) refl refl _ _ _ _
    (stay done)))))

stuck_go : Goes ready (fits 0 4)
    (Ok (answered.Fitted 0 1) ∷ Ok (answered.Fitted 0 1) ∷ Ok (answered.Fitted 0 1) ∷ Err (Unfit 3) ∷ [])
    (Ordered ∷ Ordered ∷ Ordered ∷ Ordered ∷ []) (six Ordered 3 zeros (5 ∷ 1 ∷ 3 ∷ []))
stuck_go =
    level_goes 0 0 zeros [] (Ok (answered.Fitted 0 1)) Ordered 1 zeros [] refl refl _ _ _ _
    (level_goes 0 1 zeros [] (Ok (answered.Fitted 0 1)) Ordered 2 zeros (5 ∷ 1 ∷ []) refl refl _ _ _ _
    (level_goes 0 2 zeros (5 ∷ 1 ∷ []) (Ok (answered.Fitted 0 1)) Ordered 3 zeros (5 ∷ 1 ∷ 3 ∷ []) refl refl _ _ _ _
    (level_goes 0 3 zeros (5 ∷ 1 ∷ 3 ∷ []) (Err (Unfit 3)) Ordered 3 zeros (5 ∷ 1 ∷ 3 ∷ []) refl refl _ _ _ _
    (stay (six Ordered 3 zeros (5 ∷ 1 ∷ 3 ∷ []))))))

all_end : six_fitted ≡ done
all_end = (then beginning ready done six_names (fits 1 5) _ _ _ _ six_go fits_go).ends

-- 5. one name

one_fitted : Run (List ℕ)
one_fitted = record { stage = Fitted; names = (65 ∷ [], 300) ∷ []; r = 1; seed = 1; level = 2; values = 0 ∷ 0 ∷ []; filled = 0 ∷ [] }

one_reckoned : reckoned bytes one_name ≡ one_fitted
unfolding tables one_fitted
one_reckoned = refl

one_seals : answers bytes one_fitted (seal lent 47 ∷ []) ≡ Ok (answered.Sealed 47) ∷ []
unfolding one_fitted
one_seals = refl

string_so : sealed_string bytes 1 one_fitted ≡ one_string
unfolding tables one_fitted
string_so = refl

-- 6. what the list of figures asks

pub triples_are : graph bytes six_ordered ≡ six_triples
triples_are = ap (graph bytes) six_go.ends ∙ six_graph

pub answers_are : answers bytes beginning six_names ≡ replicate 6 (Ok answered.Entered) ++ Ok answered.Mapped ∷ Ok (answered.Ordered 5) ∷ []
answers_are = six_go.answers_so

pub fits_are : answers bytes six_ordered (fits 1 5) ≡ Ok (answered.Fitted 0 1) ∷ Ok (answered.Fitted 1 1) ∷ Ok (answered.Fitted 2 1) ∷ Ok (answered.Fitted 5 3) ∷ Ok (answered.Fitted 0 3) ∷ []
fits_are = ap (λ m. answers bytes m (fits 1 5)) six_go.ends ∙ fits_go.answers_so

pub stages_are : stages six_ordered (fits 1 5) ≡ Ordered ∷ Ordered ∷ Ordered ∷ Ordered ∷ Fitted ∷ []
stages_are = ap (λ m. stages m (fits 1 5)) six_go.ends ∙ fits_go.stages_so

pub values_are : six_fitted.values ≡ 5 ∷ 0 ∷ 0 ∷ 1 ∷ 0 ∷ 2 ∷ []
values_are = ap (λ (m : Run (List ℕ)). m.values) all_end

pub slots_are : map (slot 6 six_fitted.values) (graph bytes six_fitted) ≡ 3 ∷ 4 ∷ 1 ∷ 5 ∷ 0 ∷ 2 ∷ []
slots_are = ap (λ m. map (slot 6 m.values) (graph bytes m)) all_end ∙ ap (map (slot 6 done.values)) six_graph

pub unfit_at_three : answers bytes six_ordered (fits 0 4) ≡ Ok (answered.Fitted 0 1) ∷ Ok (answered.Fitted 0 1) ∷ Ok (answered.Fitted 0 1) ∷ Err (Unfit 3) ∷ []
unfit_at_three = ap (λ m. answers bytes m (fits 0 4)) six_go.ends ∙ stuck_go.answers_so

pub seals : answers bytes (reckoned bytes one_name) (seal lent 47 ∷ []) ≡ Ok (answered.Sealed 47) ∷ []
seals = ap (λ m. answers bytes m (seal lent 47 ∷ [])) one_reckoned ∙ one_seals

pub string_is : sealed_string bytes 1 (reckoned bytes one_name) ≡ one_string
string_is = ap (sealed_string bytes 1) one_reckoned ∙ string_so
