use Rattle.std.proofs.Common.{arith}
use Rattle.record.proofs.Halves.{highest_next, highest_all}
use Rattle.record.proofs.highest.Goals as goal

pub loop-i-preserved : goal.loop-i-preserved
loop-i-preserved c = highest_next _ _ _ _ c.loop-i.invariant (omega (arith, c.max-m.ensures, c.max.ensures))

pub returns : goal.returns
returns c = highest_all _ _ _ c.loop-i.invariant (omega arith)
