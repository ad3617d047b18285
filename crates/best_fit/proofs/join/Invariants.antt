-- The entries passed tell the pairs, and are counted.
use Rattle.std.proofs.Common.{◌≡◌, cond}
use Rattle.hypercube.specs.Lists.{count_below}
use Rattle.hypercube.specs.Levels.{joined}
use Rattle.hypercube.specs.Filled.{Filled}
use Rattle.runs.specs.Flagged.{flagged}
use Rattle.best_fit.proofs.join.Given as goal

abbrev pub invariant-loop-x : goal.invariant-loop-x
invariant-loop-x l = record {
  filled : Filled (λ k. cond (joined (flagged l.level) k) 1 0) 0 512 l.x l.above;
  counted : l.free ≡ count_below l.x (joined (flagged l.level));
}
