use Rattle.log_text.proofs.Running.{running_more}
use Rattle.log_text.proofs.run.Goals as goal

-- a step more
pub loop-rec-preserved : goal.loop-rec-preserved
loop-rec-preserved c = running_more _ _ c.loop-rec.invariant c.turn-q.ensures
