-- The directions passed have their new ones.
use Rattle.labels.proofs.Assigning.{Assigned}
use Rattle.labels.proofs.assigned.Given as goal

abbrev pub invariant-loop-i : goal.invariant-loop-i
invariant-loop-i l = Assigned l.n l.mask l.last l.i l.inside l.outside l.map
