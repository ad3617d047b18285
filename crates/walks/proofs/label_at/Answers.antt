-- The entry that stands there.
use Rattle.std.proofs.Common.{suc, arith}
use Rattle.walks.proofs.Each.{lent_label}
use Rattle.walks.proofs.label_at.Goals as goal

pub bounds-labels-from : goal.bounds-labels-from
bounds-labels-from c = omega (arith, c.requires.enough)

pub returns : goal.returns
returns c = rw c.from.ensures (lent_label (suc c.args.b) c.args.b _ c.requires (omega arith))
