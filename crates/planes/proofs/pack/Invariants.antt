-- The planes from j on are packed.
use Rattle.planes.specs.Planes.{PackedFrom}
use Rattle.planes.proofs.pack.Given as goal

abbrev pub invariant-loop-j : goal.invariant-loop-j
invariant-loop-j l = PackedFrom l.flags l.j l.bytes
