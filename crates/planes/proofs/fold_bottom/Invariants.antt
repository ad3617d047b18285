-- The stars from i on are folded.
use Rattle.std.proofs.Common.{ℕ, Bool}
use Rattle.planes.specs.Planes.{Folded, ZeroBelow}
use Rattle.planes.proofs.Folds.{Bottom}
use Rattle.planes.proofs.fold_bottom.Given as goal

abbrev pub invariant-loop-i : goal.invariant-loop-i
invariant-loop-i l = (f : ℕ → Bool) (s : ℕ) → ZeroBelow l.l s → Folded f s l.bytes → Bottom f s l.l l.i l.folded
