use Rattle.std.proofs.Common.{◌+◌, arith}
use Rattle.runs.specs.Flagged.{flagged}
use Rattle.planes.proofs.Rows.{Looked, looked_next, looked_empty}
use Rattle.planes.proofs.open_rows.Goals as goal
use Rattle.planes.proofs.open_rows.Goals.{After-open_bit-mask}

pub returns-then-is_empty : goal.returns-then-is_empty
returns-then-is_empty c =
    let r = c.fold_star-folded in
    λ e a b.
    looked_empty r.result c.loop-d.auto.d (omega arith) (omega arith) (omega arith) c.loop-d.invariant r.ensures
    (c.is_empty.ensures c.if-is_empty.true) e a (omega arith)

-- one d more
next : (c : After-open_bit-mask)
    → Looked (flagged c.args.flags.now) c.args.n c.args.low (c.loop-d.d + 1) (c.loop-d.mask + c.open_bit-mask.result) c.fold_star-folded.result
next c =
    let r = c.fold_star-folded in
    looked_next r.result c.loop-d.auto.d (omega arith) (omega arith) (omega arith) c.loop-d.invariant r.ensures
    c.open_bit-mask.result c.open_bit-mask.ensures

pub loop-d-preserved : goal.loop-d-preserved
loop-d-preserved c = next (goal.at.loop-d-preserved c).After-open_bit-mask

pub returns-else-is_empty : goal.returns-else-is_empty
returns-else-is_empty c =
    let L = next (goal.at.returns-else-is_empty c).After-open_bit-mask in
    λ e a b. L.none e a (omega arith)
