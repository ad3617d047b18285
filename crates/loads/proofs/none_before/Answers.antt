use Rattle.std.proofs.Common.{refl}
use Rattle.hypercube.specs.Lists.{any_below}
use Rattle.state.proofs.Below.{any_next}
use Rattle.loads.specs.Pass.{lowest_for}
use Rattle.loads.proofs.none_before.Goals as goal

pub loop-y-init : goal.loop-y-init
unfolding any_below
loop-y-init c = refl

pub loop-y-preserved : goal.loop-y-preserved
loop-y-preserved c = let e = any_next (lowest_for c.args.bytes.now c.args.job) _ _ c.loop-y.invariant in cc
