use Rattle.std.proofs.Common.{arith}
use Rattle.lines.proofs.Digits.{decimal_short}
use Rattle.lines.proofs.Puts.{item-put}
use Rattle.lines.proofs.put_item.Goals as goal

-- a number has at most ten digits
pub put_number-requires : goal.put_number-requires
put_number-requires c = omega (arith, decimal_short c.args.x)

pub returns : goal.returns
returns c = item-put _ _ c.put_text-next.ensures c.put_number.ensures
