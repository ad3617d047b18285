use Rattle.std.proofs.Common.{arith}
use Rattle.hypercube.proofs.Filled.{filled_next, filled_all}
use Rattle.gray.proofs.Tables.{label-entry}
use Rattle.gray.proofs.first_labels.Goals as goal

pub loop-i-preserved : goal.loop-i-preserved
loop-i-preserved c =
    filled_next _ c.loop-i.invariant (omega arith) (rw c.gray_code-code.ensures (label-entry c.loop-i.i (omega arith)))

pub returns : goal.returns
returns c = filled_all c.loop-i.invariant (omega arith)
