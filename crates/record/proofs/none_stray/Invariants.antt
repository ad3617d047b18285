-- What was found is 0 where each node passed is right.
use Rattle.std.proofs.Common.{◌≡◌, eqb}
use Rattle.hypercube.specs.Lists.{all_below}
use Rattle.record.specs.Layout.{star_of}
use Rattle.record.proofs.none_stray.Given as goal

abbrev pub invariant-loop-x : goal.invariant-loop-x
invariant-loop-x l = eqb l.any 0 ≡ all_below (star_of l.bytes) l.x
