use Rattle.std.proofs.Common.{arith}
use Rattle.cube.proofs.Ways.{setup_1, setup_7, setup_0}
use Rattle.cube.proofs.cube_setup.Goals as goal

pub returns-then-rec-ne-SIZE : goal.returns-then-rec-ne-SIZE
returns-then-rec-ne-SIZE c = rw c.told.ensures (setup_1 _ _ (omega arith))

pub returns-then-n-gt10 : goal.returns-then-n-gt10
returns-then-n-gt10 c = rw c.told-then-n-gt10.ensures (setup_7 _ _ (omega arith) (omega arith))

pub returns : goal.returns
returns c = setup_0 _ _ (omega arith) (omega arith) c.fresh.ensures c.store.ensures
