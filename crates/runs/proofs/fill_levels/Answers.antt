use Rattle.std.proofs.Common.{◌≡◌, ◌+◌, arith}
use Rattle.runs.specs.Flagged.{flagged}
use Rattle.runs.specs.Levels.{Made}
use Rattle.runs.proofs.Levels.{made_more, levels_end, levels_all}
use Rattle.runs.proofs.fill_levels.Goals as goal
use Rattle.runs.proofs.fill_levels.Goals.{After-pow2-mask}

pub returns-then-not-next_level : goal.returns-then-not-next_level
returns-then-not-next_level c =
    levels_end _ _ _ _ c.loop-d.auto.d (omega arith) (omega arith) c.loop-d.invariant c.next_level.ensures _ (omega arith) (omega arith)
    c.if-not-next_level.true

-- one level more
more : (c : After-pow2-mask) → Made (flagged c.args.flags.now) c.args.n (c.loop-d.d + 1) (c.loop-d.mask + c.pow2-mask.result) c.next_level.new.levels
more c = rw c.pow2-mask.ensures (made_more _ _ _ _ c.loop-d.auto.d (omega arith) (omega arith) c.loop-d.invariant c.next_level.ensures)

pub loop-d-preserved : goal.loop-d-preserved
loop-d-preserved c = more (goal.at.loop-d-preserved c).After-pow2-mask

pub returns-else-not-next_level : goal.returns-else-not-next_level
returns-else-not-next_level c =
    let last : c.loop-d.d ≡ c.args.deep = omega arith in
    levels_all _ _ _ _ (rw last at (more (goal.at.returns-else-not-next_level c).After-pow2-mask))
