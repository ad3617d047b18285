use Rattle.std.proofs.Common.{◌≡◌, ◌+◌, ◌/◌, cond, arith, sym}
use Rattle.hypercube.specs.Levels.{joined}
use Rattle.hypercube.proofs.Filled.{filled_none, filled_next}
use Rattle.runs.specs.Flagged.{flagged}
use Rattle.best_fit.proofs.Counts.{one_le, count_none, count_more, count_le}
use Rattle.best_fit.proofs.Pairs.{entry_at}
use Rattle.best_fit.proofs.join.Goals as goal
use Rattle.best_fit.proofs.join.Goals.{After-pair}

-- the entry of the pair
entry : (c : After-pair) → (c.pair.result + 255) / 512 ≡ cond (joined (flagged c.args.level.now) c.loop-x.x) 1 0
entry c = entry_at c.args.count c.loop-x.x c.args.level.now _ c.requires.1 (omega arith) c.pair.ensures

pub loop-x-init : goal.loop-x-init
loop-x-init c = record { filled = filled_none c.told-above; counted = sym (count_none _) }

pub overflow_add-free : goal.overflow_add-free
overflow_add-free c =
    let g = joined (flagged c.args.level.now) in
    omega (arith, entry (goal.at.overflow_add-free c).After-pair, one_le (g c.loop-x.x), count_le g c.loop-x.x)

pub loop-x-preserved : goal.loop-x-preserved
loop-x-preserved c =
    let e = entry (goal.at.loop-x-preserved c).After-pair in
    record {
      filled = filled_next _ c.loop-x.invariant.filled (omega arith) e;
      counted = omega (arith, e, count_more (joined (flagged c.args.level.now)) c.loop-x.x);
    }
