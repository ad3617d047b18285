-- What is done, with the label of the bits left by the entries left, is the label.
use Rattle.std.proofs.Common.{◌≡◌, ◌+◌, drop}
use Rattle.hypercube.specs.Labels.{label}
use Rattle.labels.proofs.label_of.Given as goal

abbrev pub invariant-loop-d : goal.invariant-loop-d
invariant-loop-d l = l.done + label (drop l.d-index l.map) l.rest ≡ label l.map l.fn.x.0
