-- By the checks of a growth.
use Rattle.std.proofs.Common.{rules, of_calls}
use Rattle.record.specs.Layout.{decode}
use Rattle.state.specs.Acts.{guarded}
use Rattle.grants.proofs.Checked.{as_growth}
use Rattle.grants.proofs.grow_on.Goals as goal

pub returns : goal.returns
unfolding guarded
returns c = rw c.replied.ensures (c.asked.ensures _ (λ held b e p. as_growth (decode c.args.rec.now) _ c.args.job e b c.args.k (search (rules, of_calls))))
