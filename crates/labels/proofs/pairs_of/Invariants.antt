-- The nodes passed have their pairs.
use Rattle.labels.proofs.Pairs.{PairedTo}
use Rattle.labels.proofs.pairs_of.Given as goal

abbrev pub invariant-loop-x : goal.invariant-loop-x
invariant-loop-x l = PairedTo l.above l.flags l.x l.pairs
