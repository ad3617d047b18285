-- The entries passed have their flag.
use Rattle.hypercube.proofs.Filled.{Swept}
use Rattle.planes.proofs.Packing.{added_at}
use Rattle.planes.proofs.add_plane.Given as goal

abbrev pub invariant-loop-e : goal.invariant-loop-e
invariant-loop-e l = Swept (added_at l.flags l.j l.fn.bytes) 0 l.fn.bytes l.e l.bytes
