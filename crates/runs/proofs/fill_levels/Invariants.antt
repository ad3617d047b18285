-- The levels below d stand.
use Rattle.runs.specs.Flagged.{flagged}
use Rattle.runs.specs.Levels.{Made}
use Rattle.runs.proofs.fill_levels.Given as goal

abbrev pub invariant-loop-d : goal.invariant-loop-d
invariant-loop-d l = Made (flagged l.flags) l.n l.d l.mask l.levels
