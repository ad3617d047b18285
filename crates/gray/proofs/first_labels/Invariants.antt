-- The labels so far are Gray's.
use Rattle.hypercube.specs.Gray.{G}
use Rattle.hypercube.specs.Filled.{Filled}
use Rattle.gray.proofs.first_labels.Given as goal

abbrev pub invariant-loop-i : goal.invariant-loop-i
invariant-loop-i l = Filled G 0 128 l.i l.first
