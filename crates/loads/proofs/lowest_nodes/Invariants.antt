use Prim.Native.Nat.{◌≤◌}
use mathlib.Core.Path.{◌≡◌}
use Rattle.hypercube.specs.Lists.{count_below}
use Rattle.loads.specs.Pass.{lowest_at}
use Rattle.loads.proofs.lowest_nodes.Given as goal

abbrev pub invariant-loop-x : goal.invariant-loop-x
invariant-loop-x l = (l.count ≡ count_below l.x (lowest_at l.bytes)) × (l.count ≤ l.x)
