-- The array tells level d, and the levels below it have shown what is seen.
use Rattle.std.proofs.Common.{◌-◌, ◌^◌}
use Rattle.hypercube.specs.Levels.{level}
use Rattle.runs.specs.Flagged.{flagged}
use Rattle.best_fit.specs.Entries.{Laid}
use Rattle.best_fit.proofs.Shown.{Shown}
use Rattle.best_fit.proofs.best_walk.Given as goal

abbrev pub invariant-loop-d : goal.invariant-loop-d
invariant-loop-d l = record {
  laid : Laid (level (flagged l.flags) l.d) (2 ^ (l.n - l.d)) 1024 l.free l.level;
  shown : Shown l.n l.k l.d (flagged l.flags) l.seen;
}
