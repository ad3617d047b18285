use Rattle.std.proofs.Common.{arith}
use Rattle.planes.proofs.Stars.{high_across}
use Rattle.planes.proofs.star_high.Goals as goal

pub returns : goal.returns
returns c = high_across c.args.from.now c.loop-e.to c.args.shift c.args.kept c.loop-e.e c.loop-e.invariant (omega arith)
