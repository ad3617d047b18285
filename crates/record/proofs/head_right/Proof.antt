-- `record::head_right` meets its contract. Assumes nothing.
use borrow.Author.Rules.{rules}
use native.Mathlib.Omega.{arith}
use Rattle.record.proofs.Refusal.{head_not_size, head_not_kind, head_zero_byte}
use Rattle.record.proofs.head_right.Statement.{statement}
use Rattle.record.proofs.head_right.Tie as tie

word_requires : tie.Need-word-requires
word_requires c κs = search rules

returns : tie.Need-returns-then-word-ne-LENGTH
returns c = head_not_size _ (omega arith)

word_requires_2 : tie.Need-word-requires-2
word_requires_2 c κs = search rules

returns_2 : tie.Need-returns-then-word-ne-KIND
returns_2 c = head_not_kind _ (omega arith) (omega arith)

shared_slice_read_result : tie.Need-bounds-bytes-15
shared_slice_read_result c = search rules

returns_3 : tie.Need-returns
returns_3 c = head_zero_byte _ (omega arith) (omega arith)

pub head_right_spec : {M : Type 1} → statement M
head_right_spec =
    tie.close
    (tie.spec
    word_requires
    returns
    word_requires_2
    returns_2
    shared_slice_read_result
    returns_3)
