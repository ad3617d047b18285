-- The mask tells of the d passed, and their stars are folded.
use Rattle.runs.specs.Flagged.{flagged}
use Rattle.planes.proofs.Rows.{Looked}
use Rattle.planes.proofs.open_rows.Given as goal

abbrev pub invariant-loop-d : goal.invariant-loop-d
invariant-loop-d l = Looked (flagged l.flags) l.n l.low l.d l.mask l.folded
