-- What was found is the highest of what was read of both halves.
use Rattle.record.proofs.Halves.{Highest}
use Rattle.record.proofs.highest.Given as goal

abbrev pub invariant-loop-i : goal.invariant-loop-i
invariant-loop-i l = Highest l.part l.i l.m
