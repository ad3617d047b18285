use mathlib.Core.Path.{◌≡◌}
use Rattle.hypercube.specs.Lists.{all_below}
use Rattle.loads.specs.Pass.{alone_at}
use Rattle.loads.proofs.pairs_alone.Given as goal

abbrev pub invariant-loop-x : goal.invariant-loop-x
invariant-loop-x l = l.right ≡ all_below (alone_at l.bytes) l.x
