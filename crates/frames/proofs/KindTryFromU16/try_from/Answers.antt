use Rattle.std.proofs.Common.{arith}
use Rattle.history.specs.Calls.{kind_of}
use Rattle.frames.proofs.Parsing.{no_kind}
use Rattle.frames.proofs.KindTryFromU16.try_from.Goals as goal

pub returns-in-257 : goal.returns-in-257
unfolding kind_of
returns-in-257 c = rw c.in-257.is

pub returns-in-258 : goal.returns-in-258
unfolding kind_of
returns-in-258 c = rw c.in-258.is

pub returns-in-259 : goal.returns-in-259
unfolding kind_of
returns-in-259 c = rw c.in-259.is

pub returns-in-515 : goal.returns-in-515
unfolding kind_of
returns-in-515 c = rw c.in-515.is

pub returns-in-513 : goal.returns-in-513
unfolding kind_of
returns-in-513 c = rw c.in-513.is

pub returns-in-514 : goal.returns-in-514
unfolding kind_of
returns-in-514 c = rw c.in-514.is

pub returns-in-516 : goal.returns-in-516
unfolding kind_of
returns-in-516 c = rw c.in-516.is

pub returns-in_default : goal.returns-in_default
returns-in_default c =
    no_kind _ (omega arith) (omega arith) (omega arith) (omega arith) (omega arith) (omega arith) (omega arith)
