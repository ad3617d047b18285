-- Nothing is lacking where the labels passed are free.
use Rattle.std.proofs.Common.{◌≡◌, eqb}
use Rattle.runs.specs.Flagged.{flagged, run_free}
use Rattle.runs.proofs.run_free.Given as goal

abbrev pub invariant-loop-flag : goal.invariant-loop-flag
invariant-loop-flag l = eqb l.lacking 0 ≡ run_free (flagged l.flags) l.start l.flag-index
