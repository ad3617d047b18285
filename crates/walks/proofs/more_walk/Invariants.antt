use Rattle.std.proofs.Common.{[], ◌^◌, ◌-◌}
use Rattle.hypercube.specs.Lists.{over}
use Rattle.hypercube.specs.Families.{further, more}
use Rattle.runs.specs.Flagged.{flagged}
use Rattle.walks.specs.Open.{Leveled, Closed}
use Rattle.walks.proofs.Rests.{left}
use Rattle.walks.proofs.Turns.{Stands}
use Rattle.walks.proofs.more_walk.Given as goal

-- where the walk stands in the list, and which d have no free member
abbrev pub invariant-loop-alpha : goal.invariant-loop-alpha
invariant-loop-alpha l = record {
  stands :
      Stands (flagged l.flags) (more l.n l.low) l.before (left (λ α. over (further l.n l.low α) l.low 1) (2 ^ (l.n - l.low)) l.alpha []) l.tried;
  leveled : Leveled (flagged l.flags) l.n l.low l.mask l.levels;
  closed : Closed (flagged l.flags) l.n l.low l.mask;
}
