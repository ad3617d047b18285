-- `walks::upper_free` meets its contract. Assumes nothing.
use mathlib.Core.Path.{sym, ◌∙◌}
use native.Mathlib.Omega.{arith}
use borrow.Author.Rules.{rules}
use Rattle.hypercube.specs.Bits.{width}
use Rattle.hypercube.proofs.Halves.{highest_first}
use Rattle.walks.proofs.upper_free.Statement.{statement}
use Rattle.walks.proofs.upper_free.Tie as tie

add_t5 : tie.Need-overflow_add-c
add_t5 c = search rules

label_free_requires : tie.Need-label_free-requires
label_free_requires c κs = search rules

free_requires : tie.Need-free-requires
free_requires c κs = search rules

returns : tie.Need-returns-then-label_free
returns c = search rules

returns_2 : tie.Need-returns-else-label_free
returns_2 c = c.if-label_free.false ∙ sym (highest_first _ width _ _ (omega arith) (sym c.label_free.ensures ∙ c.if-label_free.false))

pub upper_free_spec : {M : Type 1} → statement M
upper_free_spec =
    tie.close
    (tie.spec
    add_t5
    label_free_requires
    free_requires
    returns
    returns_2)
