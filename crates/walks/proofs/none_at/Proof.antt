-- `walks::none_at` meets its contract. Assumes nothing.
use mathlib.Core.Path.{sym, ◌∙◌}
use mathlib.Core.Bool.{false≢true}
use borrow.Author.Rules.{rules}
use Rattle.walks.proofs.none_at.Statement.{statement}
use Rattle.walks.proofs.none_at.Tie as tie

tree_none_requires : tie.Need-tree_none-requires
tree_none_requires c κs = search rules

returns : tie.Need-returns-then-due
returns c = search rules

returns_2 : tie.Need-returns-else-due
returns_2 c = λ e. absurd (false≢true (sym c.if-due.false ∙ e))

pub none_at_spec : {M : Type 1} → statement M
none_at_spec =
    tie.close
    (tie.spec
    tree_none_requires
    returns
    returns_2)
