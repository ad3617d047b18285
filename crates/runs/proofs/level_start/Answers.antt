use Rattle.std.proofs.Common.{arith}
use Rattle.runs.proofs.Levels.{level_fits}
use Rattle.runs.proofs.level_start.Goals as goal

pub overflow_mul-result : goal.overflow_mul-result
overflow_mul-result c = omega (arith, level_fits c.args.n c.args.d (omega arith))

pub overflow_sub-result : goal.overflow_sub-result
overflow_sub-result c = omega (arith, level_fits c.args.n c.args.d (omega arith))
