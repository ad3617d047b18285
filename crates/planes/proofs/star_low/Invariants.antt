-- The entries passed have their pairs.
use Rattle.hypercube.specs.Filled.{Filled}
use Rattle.planes.proofs.Stars.{low_at}
use Rattle.planes.proofs.star_low.Given as goal

abbrev pub invariant-loop-e : goal.invariant-loop-e
invariant-loop-e l = Filled (low_at l.from l.star) 0 192 l.e l.to
