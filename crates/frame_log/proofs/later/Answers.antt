use Rattle.std.proofs.Common.{sym, ◌∙◌, rules, arith}
use Rattle.cube.proofs.Room.{not_2}
use Rattle.frame_log.proofs.Stepping.{later_told}
use Rattle.frame_log.proofs.later.Goals as goal

-- a reply buffer of 12 bytes has room for every reply
pub read_reply-requires : goal.read_reply-requires
read_reply-requires c = (search rules, λ e. not_2 _ _ _ (omega arith) (sym c.cube_call-number.ensures.returned ∙ e))

pub returns : goal.returns
returns c = later_told _ _ _ _ _ _ c.cube_call-number.ensures c.read_reply.ensures
