-- By the law that the strategies are those up to 4.
use Rattle.std.proofs.Common.{sym}
use Rattle.history.proofs.Offered.{offered_below}
use Rattle.grants.proofs.is_offered.Goals as goal

pub returns : goal.returns
returns c = sym (offered_below _)
