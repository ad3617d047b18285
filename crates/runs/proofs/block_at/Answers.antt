use Rattle.std.proofs.Common.{◌≡◌, ◌+◌, ◌*◌, ◌^◌, ◌≤◌, false, ap₂, sym, refl, ◌∙◌, arith}
use Rattle.std.proofs.Math.Pow.{pow_pos}
use borrow.Author.Tests.{ne_eqb}
use Rattle.runs.specs.Flagged.{flagged}
use Rattle.runs.specs.Levels.{level_start, at_level}
use Rattle.runs.proofs.Runs.{run_same, run_first}
use Rattle.runs.proofs.Levels.{block_inside}
use Rattle.runs.proofs.block_at.Goals as goal
use Rattle.runs.proofs.block_at.Goals.{After-level_start}

-- the block lies in the array
inside : (c : After-level_start)
    → (c.level_start.result + c.args.alpha * c.pow2-unit.result + c.pow2-unit.result ≤ 2048) × (1 ≤ c.pow2-unit.result)
inside c =
    let a = c.args in
    rw (c.level_start.ensures, c.pow2-unit.ensures) (block_inside a.n a.d a.l a.alpha (omega arith) (omega arith) (omega arith))

pub overflow_mul-first : goal.overflow_mul-first
overflow_mul-first c = omega (arith, inside (goal.at.overflow_mul-first c).After-level_start)

pub overflow_add-first : goal.overflow_add-first
overflow_add-first c = omega (arith, inside (goal.at.overflow_add-first c).After-level_start)

pub bounds-levels-at : goal.bounds-levels-at
bounds-levels-at c = omega (arith, inside (goal.at.bounds-levels-at c).After-level_start)

pub run_free-requires : goal.run_free-requires
run_free-requires c = omega (arith, inside (goal.at.run_free-requires c).After-level_start)

pub returns-then-levels-at-eq1 : goal.returns-then-levels-at-eq1
returns-then-levels-at-eq1 c =
    let a = c.args in
    let ls = a.levels.now in
    c.run_free.ensures
    ∙ rw (c.level_start.ensures, c.pow2-unit.ensures)
    (run_same (flagged ls) (at_level a.n a.d ls) (level_start a.n a.d) (a.alpha * 2 ^ a.l) (2 ^ a.l) (λ x lo hi. refl))

pub returns-else-levels-at-eq1 : goal.returns-else-levels-at-eq1
returns-else-levels-at-eq1 c =
    let a = c.args in
    let none : flagged a.levels.now c.from-at.result ≡ false = ne_eqb _ 1 c.if-levels-at-eq1.false in
    let place : c.from-at.result ≡ level_start a.n a.d + a.alpha * 2 ^ a.l =
    c.from-at.ensures ∙ ap₂ (λ u v. u + a.alpha * v) c.level_start.ensures c.pow2-unit.ensures in
    none ∙ sym (run_first (at_level a.n a.d a.levels.now) _ _ (rw place at none) (pow_pos a.l))
