use Rattle.std.proofs.Common.{arith}
use Rattle.lines.proofs.Digits.{decimal_short}
use Rattle.lines.proofs.Puts.{line_put}
use Rattle.lines.proofs.put_line.Goals as goal

-- a place has at most ten digits
pub put_number-next-requires : goal.put_number-next-requires
put_number-next-requires c = omega (arith, decimal_short c.args.place)

pub put_outcome-requires : goal.put_outcome-requires
put_outcome-requires c = omega (arith, decimal_short c.args.place)

pub returns : goal.returns
returns c = line_put _ _ c.put_number-next.ensures c.put_outcome.ensures
