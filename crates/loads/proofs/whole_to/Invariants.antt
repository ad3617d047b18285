use Rattle.std.proofs.Common.{◌≡◌, true}
use Rattle.hypercube.specs.Lists.{all_below}
use Rattle.loads.specs.Pass.{whole_at}
use Rattle.loads.proofs.whole_to.Given as goal

abbrev pub invariant-loop-x : goal.invariant-loop-x
invariant-loop-x l = true ≡ all_below (whole_at l.bytes l.n) l.x
