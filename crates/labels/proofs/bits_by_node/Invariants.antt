-- What is done is the node's bits by the entries passed, from the last down; with those left there are ten.
use Rattle.std.proofs.Common.{◌≡◌, ◌+◌, length, reverse}
use Rattle.hypercube.specs.Labels.{node}
use Rattle.labels.proofs.bits_by_node.Given as goal

abbrev pub invariant-loop-d : goal.invariant-loop-d
invariant-loop-d l = record {
  next : (goal.iterator-loop-d).can_next l.d-iterator;
  finite : (goal.iterator-loop-d).is_finite l.d-iterator;
  so_far : l.done ≡ node (reverse l.yielded) l.bits;
  ten : length l.d-iterator.iter.iter.rest.now + length l.yielded ≡ 10;
}
