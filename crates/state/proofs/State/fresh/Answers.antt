use Rattle.std.proofs.Common.{refl}
use Rattle.hypercube.specs.Lists.{over}
use Rattle.state.proofs.State.fresh.Goals as goal

pub returns : goal.returns
unfolding over
returns c = refl
