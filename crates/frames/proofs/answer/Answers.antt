use Rattle.std.proofs.Common.{arith}
use Rattle.frames.proofs.Writing.{answered}
use Rattle.frames.proofs.answer.Goals as goal

pub returns-in-Granted : goal.returns-in-Granted
returns-in-Granted c = answered _ _ c.args.reply.now _ c.in-Granted.is c.put_words.ensures (omega arith)

pub returns-in-Refused : goal.returns-in-Refused
returns-in-Refused c = answered _ _ c.args.reply.now _ c.in-Refused.is c.put_words-in-Refused.ensures (omega arith)

pub returns-in-Done : goal.returns-in-Done
returns-in-Done c = answered _ _ c.args.reply.now _ c.in-Done.is c.put_words-in-Done.ensures (omega arith)
