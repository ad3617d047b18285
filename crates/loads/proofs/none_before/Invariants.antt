use mathlib.Core.Path.{◌≡◌}
use Rattle.hypercube.specs.Lists.{any_below}
use Rattle.loads.specs.Pass.{lowest_for}
use Rattle.loads.proofs.none_before.Given as goal

abbrev pub invariant-loop-y : goal.invariant-loop-y
invariant-loop-y l = l.seen ≡ any_below (lowest_for l.bytes l.job) l.y
