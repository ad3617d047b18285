-- No two are apart by a star passed.
use Rattle.std.proofs.Common.{ℕ, ◌≤◌, ◌<◌}
use Rattle.planes.specs.Planes.{NoPair}
use Rattle.planes.proofs.no_pair.Given as goal

abbrev pub invariant-loop-i : goal.invariant-loop-i
invariant-loop-i l = (k : ℕ) → l.first ≤ k → k < l.i → NoPair k l.bytes
