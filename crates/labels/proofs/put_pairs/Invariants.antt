-- The pairs passed are put.
use Rattle.labels.specs.Flags.{pair_from, PairsPut}
use Rattle.labels.proofs.put_pairs.Given as goal

abbrev pub invariant-loop-l : goal.invariant-loop-l
invariant-loop-l l = PairsPut (pair_from l.pairs l.base.0 l.low) l.at l.l l.initial.flags l.flags
