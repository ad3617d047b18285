-- The first 2^j labels have their nodes, and in a turn as many more as it has passed.
use Rattle.std.proofs.Common.{◌+◌, ◌^◌}
use Rattle.labels.proofs.Doubling.{NodesTo}
use Rattle.labels.proofs.nodes_from.Given as goal

abbrev pub invariant-loop-l : goal.invariant-loop-l
invariant-loop-l l = NodesTo l.map l.first (l.size + l.l) l.nodes

abbrev pub invariant-loop-j : goal.invariant-loop-j
invariant-loop-j l = NodesTo l.map l.first (2 ^ l.j) l.nodes
