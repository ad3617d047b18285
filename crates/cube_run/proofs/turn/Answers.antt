use Rattle.log_stream.proofs.Dues.{read_inside, write_inside}
use Rattle.cube_run.proofs.Turning.{reached_read, reached_write, if_made}
use Rattle.cube_run.proofs.turn.Goals as goal

-- a read was due
pub returns-then-t : goal.returns-then-t
returns-then-t g c = reached_read c.advance-t.ensures _ c.if-t.true c.read_more.ensures

pub read_more-requires : goal.read_more-requires
read_more-requires g c = read_inside c.requires c.advance-t.ensures c.if-t.true

-- a write was due
pub write_out-requires : goal.write_out-requires
write_out-requires g c = write_inside c.requires c.advance-t.ensures c.if-t.false

pub returns : goal.returns
returns g c = if_made c.write_out.result (λ u W. reached_write c.advance-t.ensures _ c.if-t.false W) c.write_out.ensures
