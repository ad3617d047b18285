use Rattle.std.proofs.Common.{◌≡◌, arith, sym, min}
use Rattle.hypercube.specs.Lists.{all_below}
use Rattle.state.proofs.Below.{not_all}
use Rattle.loads.proofs.all_whole.Goals as goal

pub loop-at-init : goal.loop-at-init
unfolding all_below
loop-at-init c = let e : min 0 c.args.size ≡ 0 = omega arith in rw e

pub returns-then-not-block_whole : goal.returns-then-not-block_whole
returns-then-not-block_whole c = sym (not_all _ _ c.args.size (omega arith) (sym c.if-not-block_whole.ensures))
