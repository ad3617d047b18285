use Rattle.std.proofs.Common.{arith}
use Rattle.std.proofs.lemmas.Result.{err_from_is_err_and}
use Rattle.frames.proofs.Parsing.{cause_3_short, cause_3_length, cause_4, cause_5, known}
use Rattle.frames.proofs.parse.Goals as goal

pub returns-then-len-lt4 : goal.returns-then-len-lt4
returns-then-len-lt4 c = cause_3_short _ (omega arith)

pub returns-then-from-len : goal.returns-then-from-len
returns-then-from-len c = cause_3_length _ (omega arith) (omega arith)

pub returns-in_err-kind : goal.returns-in_err-kind
returns-in_err-kind c =
    let p = err_from_is_err_and c.from_residual.result c.from_residual.ensures.1 in
    rw (p.1, p.2) (cause_4 _ (omega arith) (omega arith) _ c.word-2.ensures _ c.in_err-kind.ensures)

pub returns-then-len-size : goal.returns-then-len-size
returns-then-len-size c =
    cause_5 _ (omega arith) (omega arith) _ c.word-2.ensures _ (rw c.in_ok-kind.was at c.try_from.ensures) (omega arith)

pub returns : goal.returns
returns c =
    known _ (omega arith) (omega arith) _ c.word-2.ensures _ (rw c.in_ok-kind.was at c.try_from.ensures) _ c.call_of.ensures (omega arith)
