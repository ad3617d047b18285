-- What it lends reaches as far as the walk reads.
use Rattle.std.proofs.Common.{arith}
use Rattle.gray.specs.Tables.{label_table}
use Rattle.walks.proofs.Each.{gray_room, gray-buddy, count_few, lent}
use Rattle.walks.proofs.gray_walk.Goals as goal

pub returns-then-k-n : goal.returns-then-k-n
returns-then-k-n c = rw (gray-buddy c.args.n c.args.k c.if-k-n.true) c.buddy_walk.ensures

pub each_walk-requires : goal.each_walk-requires
each_walk-requires c = record { testable = λ α v. gray_room c.args.n c.args.k α (omega arith) (omega arith) v }

pub invariant_of-each_walk-else-n-le7 : goal.invariant_of-each_walk-else-n-le7
unfolding label_table
invariant_of-each_walk-else-n-le7 c =
    record { k_le_n = c.requires; lent = lent _ 1024 _ c.labels.ensures (count_few 10 c.args.n c.args.k (omega arith)) }

pub each_walk-requires-else-n-le7 : goal.each_walk-requires-else-n-le7
each_walk-requires-else-n-le7 c = record { testable = λ α v. gray_room c.args.n c.args.k α (omega arith) (omega arith) v }
