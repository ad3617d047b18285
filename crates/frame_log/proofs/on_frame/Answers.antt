use Rattle.frame_log.proofs.Stepping.{later_line}
use Rattle.frame_log.proofs.on_frame.Goals as goal

pub returns : goal.returns
returns c = later_line _ _ _ _ _ _ c.if-lines-eq0.false c.later.ensures
