use Rattle.std.proofs.Common.{arith}
use Rattle.record.proofs.Halves.{zero_next, zero_all}
use Rattle.record.proofs.all_zero.Goals as goal

pub loop-i-preserved : goal.loop-i-preserved
loop-i-preserved c = zero_next _ _ _ c.loop-i.invariant

pub returns : goal.returns
returns c = zero_all _ _ _ c.loop-i.invariant (omega arith)
