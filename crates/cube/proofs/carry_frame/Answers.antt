use Rattle.std.proofs.Common.{arith}
use Rattle.cube.proofs.Ways.{by_frame, frame_refused}
use Rattle.cube.proofs.carry_frame.Goals as goal

pub returns-in-Ok : goal.returns-in-Ok
returns-in-Ok c = by_frame _ c.in-Ok.is c.call_record.ensures

pub returns-in-Err : goal.returns-in-Err
returns-in-Err c = by_frame _ c.in-Err.is (frame_refused _ c.requires (λ i. omega (arith, c.type_inv.rec i)) _ c.reply.ensures)
