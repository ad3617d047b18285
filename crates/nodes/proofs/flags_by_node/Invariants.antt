-- The nodes passed have their flags.
use Rattle.hypercube.proofs.Filled.{Swept}
use Rattle.labels.specs.Flags.{flag}
use Rattle.record.specs.Layout.{decode}
use Rattle.nodes.proofs.flags_by_node.Given as goal

abbrev pub invariant-loop-x : goal.invariant-loop-x
invariant-loop-x l = Swept (flag (decode l.bytes).conditions (decode l.bytes).holders l.job) 0 l.initial.flags l.x l.flags
