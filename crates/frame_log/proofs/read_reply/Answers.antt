use Rattle.std.proofs.Common.{arith}
use Rattle.frame_log.proofs.Stepping.{reply-refused, reply-granted, reply_done}
use Rattle.frame_log.proofs.read_reply.Goals as goal

pub returns-then-number-ne0 : goal.returns-then-number-ne0
returns-then-number-ne0 c = reply-refused _ _ _ c.requires.1 c.if-number-ne0.true c.word.ensures

pub returns-then-word-eq-GRANTED : goal.returns-then-word-eq-GRANTED
returns-then-word-eq-GRANTED c =
    reply-granted _ _ _ _ _ _ (omega arith) (omega arith) c.word-then-word-eq-GRANTED.ensures c.word-then-word-eq-GRANTED-2.ensures
    c.word-then-word-eq-GRANTED-3.ensures c.word-then-word-eq-GRANTED-4.ensures

pub returns : goal.returns
returns c = reply_done _ _ _ (omega arith) (λ e. omega arith) c.word-3.ensures
