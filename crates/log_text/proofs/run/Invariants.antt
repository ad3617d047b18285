use Rattle.log_text.proofs.Running.{Running, left}
use Rattle.log_text.proofs.run.Given as goal

-- what was done is a part of the log
abbrev pub invariant-loop-rec : goal.invariant-loop-rec
invariant-loop-rec l = Running l.fn.window l.fn.last l.initial.q l.initial.rec l.initial.out l.q l.rec l.out

-- each step leaves less of the window, or stops
abbrev pub decreases-loop-rec : goal.decreases-loop-rec
decreases-loop-rec l = left l.window l.last l.q
