-- Its stars lie in ten bits.
use Rattle.std.proofs.Common.{arith}
use Rattle.walks.proofs.Room.{exponent_lt}
use Rattle.walks.proofs.gray_member.Goals as goal

pub pow2-unit-requires : goal.pow2-unit-requires
pow2-unit-requires c = omega (arith, exponent_lt c.args.j 11 (omega arith))
