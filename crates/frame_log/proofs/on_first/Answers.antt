use Rattle.std.proofs.Common.{sym, arith}
use Rattle.frame_log.proofs.Firsts.{set_up_size}
use Rattle.frame_log.proofs.Stepping.{first_refused, first_set}
use Rattle.frame_log.proofs.on_first.Goals as goal

-- a right set-up has 6 bytes
pub word-requires : goal.word-requires
word-requires c = omega (arith, set_up_size c.args.rec.now c.args.frame.now (sym c.in-Ok.ensures.0))

pub returns-in-Ok : goal.returns-in-Ok
returns-in-Ok c = first_set _ _ _ _ _ c.word.ensures c.in-Ok.ensures

pub returns-in-Err : goal.returns-in-Err
returns-in-Err c = first_refused _ _ _ _ _ _ c.refused.ensures c.in-Err.ensures
