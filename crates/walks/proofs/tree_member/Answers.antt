-- The star's place is below that of the member's highest label.
use Rattle.std.proofs.Common.{◌+◌, arith}
use Rattle.walks.proofs.Room.{exponent_lt}
use Rattle.walks.proofs.tree_member.Goals as goal

pub overflow_add-l : goal.overflow_add-l
overflow_add-l c = omega (arith, exponent_lt (c.args.l + c.args.p) 11 (omega arith))

pub pow2-requires : goal.pow2-requires
pow2-requires c = omega (arith, exponent_lt (c.args.l + c.args.p) 11 (omega arith))
