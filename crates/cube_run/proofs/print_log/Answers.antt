use Rattle.std.proofs.Common.{arith}
use Rattle.cube_run.proofs.Turning.{going_start, going_ready, going_more, finished_ended, finished_count}
use Rattle.cube_run.proofs.print_log.Goals as goal

-- no turn is taken yet
pub loop-init : goal.loop-init
loop-init g c = going_start _ _ _ _ _ _ c.start-s.ensures

-- the log goes on, so the next turn may be taken
pub turn-requires : goal.turn-requires
turn-requires g c = going_ready c.loop.invariant c.requires.1

-- it was one more turn of the run
pub loop-preserved : goal.loop-preserved
loop-preserved g c = going_more c.loop.invariant (c.in_ok-s.ensures c.if-s.false _ _ _ c.loop.invariant.reached)

-- the count is at its end
pub returns-after-loop : goal.returns-after-loop
returns-after-loop g c = finished_count c.loop.invariant c.requires.0 c.requires.1 (omega arith)

-- the log has ended
pub returns-then-s : goal.returns-then-s
returns-then-s g c = finished_ended c.loop.invariant c.if-s.true
