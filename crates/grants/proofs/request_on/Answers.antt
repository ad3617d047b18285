-- By the check of a request.
use Rattle.record.specs.Layout.{decode}
use Rattle.state.specs.Acts.{guarded}
use Rattle.grants.proofs.Checked.{as_request}
use Rattle.grants.proofs.request_on.Goals as goal

pub returns : goal.returns
unfolding guarded
returns c = rw c.replied.ensures (c.asked.ensures _ (λ held b e p. as_request (decode c.args.rec.now) _ c.args.job e b p))
