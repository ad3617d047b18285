use Rattle.std.proofs.Common.{arith, sym}
use Rattle.hypercube.proofs.Filled.{filled_none, filled_next}
use Rattle.runs.specs.Flagged.{flagged}
use Rattle.best_fit.proofs.Counts.{one_le, count_none, count_more, count_le}
use Rattle.best_fit.proofs.first_level.Goals as goal

pub loop-x-init : goal.loop-x-init
loop-x-init c = record { filled = filled_none c.told-level; counted = sym (count_none _) }

pub overflow_add-free : goal.overflow_add-free
overflow_add-free c =
    let f = flagged c.args.flags.now in
    omega (arith, one_le (f c.loop-x.x), count_le f c.loop-x.x)

pub loop-x-preserved : goal.loop-x-preserved
loop-x-preserved c = record {
  filled = filled_next _ c.loop-x.invariant.filled (omega arith) c.indicator-entry.ensures;
  counted = omega (arith, count_more (flagged c.args.flags.now) c.loop-x.x);
}
