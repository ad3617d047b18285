use Rattle.std.proofs.Common.{◌∙◌, sym, arith}
use Rattle.cube.proofs.Ways.{call_1, call_2, call-told}
use Rattle.cube.proofs.cube_call.Goals as goal

pub returns-then-not-is_valid : goal.returns-then-not-is_valid
returns-then-not-is_valid c = rw c.told.ensures (call_1 _ _ _ (sym c.if-not-is_valid.ensures))

pub returns-then-reply-lt12 : goal.returns-then-reply-lt12
returns-then-reply-lt12 c = rw c.told-then-reply-lt12.ensures (call_2 _ _ _ (sym c.if-not-is_valid.ensures) (omega arith))

pub returns : goal.returns
returns c =
    call-told _ _ _ (sym c.if-not-is_valid.ensures) (omega arith) c.parse.ensures c.carry_frame-r.ensures (c.from.ensures ∙ c.number.ensures)
    c.answer.ensures
