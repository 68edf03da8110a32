use Rattle.std.proofs.Common.{◌≡◌, ℕ, ◌≤◌, leb, List, ◌++◌, length, get_or, take, drop, sym, ap, ◌∙◌, subst, arith}
use Rattle.std.proofs.lemmas.Bool.{cond-true, le-leb}
use Rattle.std.proofs.lemmas.List.{length-take-le}
use Rattle.hashing.specs.Generator.{tables, drawn}
use Rattle.hashing.proofs.Drawing.{tables_in_range}
use Rattle.hashing.proofs.tables.fill.Goals as goal

all_drawn : (x : ℕ) (m d : List ℕ) → 12288 ≤ length m → d ≡ drawn (length (take 12288 m)) x → d ≡ tables x
unfolding tables
all_drawn x m d h e = e ∙ ap (λ k. drawn k x) (length-take-le 12288 m h)

pub returns-clause-memory : goal.returns-clause-memory
returns-clause-memory c =
    let m = c.args.memory.now in
    let x = c.args.seed.value in
    ap (λ d. d ++ drop 12288 m) (all_drawn x m c.draw.new.memory (omega arith) c.draw.ensures) ∙
    sym (cond-true (leb 12288 (length m)) (tables x ++ drop 12288 m) m (le-leb 12288 (length m) (omega arith)))

pub returns-clause-drawn_in_range : goal.returns-clause-drawn_in_range
returns-clause-drawn_in_range c h k l =
    let m = c.args.memory.now in
    let x = c.args.seed in
    let is = all_drawn x.value m c.draw.new.memory (omega arith) c.draw.ensures in
    subst (λ (d : List ℕ). (1 ≤ get_or (d ++ drop 12288 m) k 0) × (get_or (d ++ drop 12288 m) k 0 ≤ 2147483646)) (sym is) (tables_in_range x.value (drop 12288 m) (x.low, x.high) k l)
