-- The entries passed tell the flags, and are counted.
use Rattle.std.proofs.Common.{◌≡◌, cond}
use Rattle.hypercube.specs.Lists.{count_below}
use Rattle.hypercube.specs.Filled.{Filled}
use Rattle.runs.specs.Flagged.{flagged}
use Rattle.best_fit.proofs.first_level.Given as goal

abbrev pub invariant-loop-x : goal.invariant-loop-x
invariant-loop-x l = record {
  filled : Filled (λ k. cond (flagged l.flags k) 1 0) 0 1024 l.x l.level;
  counted : l.free ≡ count_below l.x (flagged l.flags);
}
