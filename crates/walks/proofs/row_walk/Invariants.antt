use Rattle.std.proofs.Common.{[]}
use Rattle.hypercube.specs.Families.{tree_member, further}
use Rattle.runs.specs.Flagged.{flagged}
use Rattle.walks.proofs.Rests.{left, at_zero}
use Rattle.walks.proofs.Turns.{Stands}
use Rattle.walks.proofs.row_walk.Given as goal

-- where the walk stands in the row
abbrev pub invariant-loop-p : goal.invariant-loop-p
invariant-loop-p l =
    Stands (flagged l.flags) (further l.n l.low l.alpha l.d) l.before
    (left (at_zero (tree_member l.n l.d l.l l.alpha) l.alpha) l.digits l.p []) l.tried
