-- The entries passed have their pairs.
use Rattle.hypercube.specs.Filled.{Filled}
use Rattle.planes.proofs.Stars.{high_at}
use Rattle.planes.proofs.star_high.Given as goal

abbrev pub invariant-loop-e : goal.invariant-loop-e
invariant-loop-e l = Filled (high_at l.from l.shift l.kept) 0 192 l.e l.to
