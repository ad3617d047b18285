-- The masks show the bits of the nodes passed that aren't good.
use Rattle.labels.specs.Relabelling.{not_good}
use Rattle.labels.proofs.Differing.{Masks}
use Rattle.labels.proofs.differing_bits.Given as goal

abbrev pub invariant-loop-x : goal.invariant-loop-x
invariant-loop-x l = Masks (not_good l.conditions) l.x l.ones l.zeros
