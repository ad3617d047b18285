-- `record::is_valid` meets its contract: one law for each way out. Assumes nothing.
use borrow.Author.Rules.{rules}
use mathlib.Core.Path.{sym, ◌∙◌}
use native.Mathlib.Omega.{arith}
use borrow.Author.Tests.{not-true, not-false}
use Rattle.record.proofs.Refusal.{not_size, not_head, by_state}
use Rattle.record.proofs.is_valid.Statement.{statement}
use Rattle.record.proofs.is_valid.Tie as tie

returns : tie.Need-returns-then-bytes-ne-SIZE
returns c = not_size _ (omega arith)

head_right_requires : tie.Need-head_right-requires
head_right_requires c κs = search rules

returns_2 : tie.Need-returns-then-not-head_right
returns_2 c = not_head _ (omega arith) (sym c.head_right.ensures ∙ not-true _ c.if-not-head_right.true-raw)

state_right_requires : tie.Need-state_right-requires
state_right_requires c κs = search rules

returns_3 : tie.Need-returns
returns_3 c =
    c.state_right.ensures
    ∙ by_state _ (omega arith) (sym c.head_right.ensures ∙ not-false _ c.if-not-head_right.false-raw)

pub is_valid_spec : {M : Type 1} → statement M
is_valid_spec =
    tie.close
    (tie.spec
    returns
    head_right_requires
    returns_2
    state_right_requires
    returns_3)
