-- The loop stores two bytes of each number.
use Rattle.std.proofs.Common.{◌*◌}
use Rattle.hypercube.specs.Words.{words}
use Rattle.record.specs.Stored.{Laid}
use Rattle.record.proofs.put_words.Given as goal

abbrev pub invariant-loop-x : goal.invariant-loop-x
invariant-loop-x l = Laid (words l.part) l.fn.at (2 * l.x) l.initial.bytes l.bytes
