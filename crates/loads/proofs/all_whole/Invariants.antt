-- Each node passed is right.
use Rattle.std.proofs.Common.{◌≡◌, true, min}
use Rattle.hypercube.specs.Lists.{all_below}
use Rattle.loads.specs.Pass.{whole_at}
use Rattle.loads.proofs.all_whole.Given as goal

abbrev pub invariant-loop-at : goal.invariant-loop-at
invariant-loop-at l = true ≡ all_below (whole_at l.bytes l.n) (min l.at l.size)
