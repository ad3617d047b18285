-- What the entries passed have told, with what the others add, is each bit's node.
use Rattle.labels.proofs.BitNodes.{BitsTo}
use Rattle.labels.proofs.nodes_of_bits.Given as goal

abbrev pub invariant-loop-place : goal.invariant-loop-place
invariant-loop-place l = BitsTo l.map l.place l.nodes
