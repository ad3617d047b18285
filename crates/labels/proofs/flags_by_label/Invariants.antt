-- The flags of the rows passed are put.
use Rattle.std.proofs.Common.{◌*◌}
use Rattle.hypercube.proofs.Filled.{Swept}
use Rattle.labels.specs.Flags.{moved_at}
use Rattle.labels.proofs.flags_by_label.Given as goal

abbrev pub invariant-loop-h : goal.invariant-loop-h
invariant-loop-h l = Swept (moved_at l.map l.initial.flags) 0 l.initial.flags (32 * l.h) l.flags
