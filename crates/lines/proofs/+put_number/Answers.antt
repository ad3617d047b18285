-- One digit, or the digits of a tenth and the last: how many there are, and that they are the number's.
use Rattle.std.proofs.Common.{arith}
use Rattle.lines.proofs.Digits.{length_one, length_more}
use Rattle.lines.proofs.Puts.{number_one, number_more}
use Rattle.lines.proofs.+put_number.Goals as goal

pub put_byte-requires : goal.put_byte-requires
put_byte-requires t c = omega (arith, length_one c.args.x (omega arith))

pub returns-then-x-lt10 : goal.returns-then-x-lt10
returns-then-x-lt10 t c = number_one _ _ (omega arith) c.digit_of.ensures c.put_byte.ensures

pub put_number-next-requires : goal.put_number-next-requires
put_number-next-requires t c = (omega arith, omega (arith, length_more c.args.x (omega arith) (omega arith)))

pub put_byte-requires-2 : goal.put_byte-requires-2
put_byte-requires-2 t c = omega (arith, length_more c.args.x (omega arith) (omega arith))

pub returns : goal.returns
returns t c = number_more _ _ (omega arith) (omega arith) c.digit_of-2.ensures c.put_number-next.ensures c.put_byte-2.ensures
