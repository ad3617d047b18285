use Rattle.std.proofs.Common.{◌≡◌, true}
use Rattle.hypercube.specs.Lists.{all_below}
use Rattle.loads.specs.Pass.{alone_at}
use Rattle.loads.proofs.Marks.{Marks}
use Rattle.loads.proofs.all_alone.Given as goal

abbrev pub invariant-loop-x : goal.invariant-loop-x
invariant-loop-x l = (true ≡ all_below (alone_at l.bytes) l.x) × Marks l.bytes l.x l.marks
