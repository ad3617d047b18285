use Rattle.std.proofs.Common.{arith}
use Rattle.planes.proofs.Stars.{low_across}
use Rattle.planes.proofs.star_low.Goals as goal

pub returns : goal.returns
returns c = low_across c.args.from.now c.loop-e.to c.args.star c.loop-e.e c.loop-e.invariant (omega arith)
