use Rattle.std.proofs.Common.{arith}
use Rattle.planes.specs.Planes.{tops}
use Rattle.planes.proofs.Rows.{tops-low, rows_none}
use Rattle.planes.proofs.rows_none.Goals as goal

pub returns : goal.returns
returns c =
    let a = c.args in
    let bottom = c.fold_bottom in
    λ e f F.
    rows_none f bottom.result a.n a.d a.l (omega arith) (omega arith)
    (bottom.ensures f (tops a.n a.d) (tops-low a.n a.d a.l (omega arith)) F) a.first (c.no_pair.ensures e)
