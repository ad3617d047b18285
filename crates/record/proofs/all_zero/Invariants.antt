-- What was found is 0 where all that was read of both halves is.
use Rattle.record.proofs.Halves.{Zero}
use Rattle.record.proofs.all_zero.Given as goal

abbrev pub invariant-loop-i : goal.invariant-loop-i
invariant-loop-i l = Zero l.part l.i l.any
