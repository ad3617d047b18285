use Rattle.std.proofs.Common.{◌≡◌, None, [], suc, ◌+◌, ◌-◌, ◌≤◌}
use Rattle.hypercube.specs.Families.{tree_member, places, tree}
use Rattle.runs.specs.Flagged.{flagged}
use Rattle.walks.proofs.Rests.{left, at_zero}
use Rattle.walks.proofs.Turns.{Stands}
use Rattle.walks.proofs.tree_rows.Given as goal

-- where the walk stands in the list
abbrev pub invariant-walk : goal.invariant-walk
invariant-walk l = record {
  stands : Stands (flagged l.flags) (tree l.n (suc l.low)) 0 (left (λ α. places l.n 0 l.low α (l.n - l.low) 0) l.end l.alpha []) l.tried;
  seen_le : l.seen ≤ l.alpha;
  not_yet : l.found ≡ None;
}

abbrev pub invariant-loop-p : goal.invariant-loop-p
invariant-loop-p l = record {
  stands :
      Stands (flagged l.flags) (tree l.n (suc l.low)) 0
      (left (at_zero (tree_member l.n 0 l.low l.alpha) l.alpha) l.digits l.p
      (left (λ α. places l.n 0 l.low α (l.n - l.low) 0) l.end (l.alpha + 1) []))
      l.tried;
  not_yet : l.found ≡ None;
}
