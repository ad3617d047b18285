use Rattle.std.proofs.Common.{◌≡◌, ◌≤◌, eqb, get_or}
use Rattle.hypercube.specs.Lists.{count_below}
use Rattle.record.specs.Layout.{decode}
use Rattle.nodes.proofs.count_held.Given as goal

abbrev pub invariant-loop-x : goal.invariant-loop-x
invariant-loop-x l = (l.count ≡ count_below l.x (λ x. eqb (get_or (decode l.bytes).holders x 0) l.job)) × (l.count ≤ l.x)
