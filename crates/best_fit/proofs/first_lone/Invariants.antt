-- The first so far.
use Rattle.std.proofs.Common.{◌≡◌}
use Rattle.hypercube.specs.Levels.{lone}
use Rattle.runs.specs.Flagged.{flagged}
use Rattle.best_fit.specs.Seen.{first_below}
use Rattle.best_fit.proofs.first_lone.Given as goal

abbrev pub invariant-loop-x : goal.invariant-loop-x
invariant-loop-x l = l.first ≡ first_below l.x (lone (flagged l.level))
