use Rattle.std.proofs.Common.{[], ◌+◌}
use Rattle.hypercube.specs.Lists.{over}
use Rattle.hypercube.specs.Families.{further}
use Rattle.runs.specs.Flagged.{flagged}
use Rattle.walks.proofs.Rests.{left}
use Rattle.walks.proofs.Turns.{Stands}
use Rattle.walks.proofs.further_walk.Given as goal

-- where the walk stands in the rows of α
abbrev pub invariant-loop-d : goal.invariant-loop-d
invariant-loop-d l =
    Stands (flagged l.flags) (over (further l.n l.low l.alpha) l.low 1) l.before (left (further l.n l.low l.alpha) (l.low + 1) l.d []) l.tried
