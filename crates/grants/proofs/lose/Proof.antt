-- `grants::lose` meets its contract. Assumes nothing.
use borrow.Author.Rules.{rules}
use native.Mathlib.Omega.{arith}
use Rattle.steps.proofs.Ways.{whole}
use Rattle.grants.proofs.Read.{none_beyond}
use Rattle.grants.proofs.Lost.{lost_none}
use Rattle.grants.proofs.lose.Statement.{statement}
use Rattle.grants.proofs.lose.Tie as tie

returns : tie.Need-returns-then-held-eq0
returns c =
    let p = c.requires in
    lost_none _ (λ i. omega (arith, c.slice_known-1.given i)) p c.if-held-eq0.true

nodes_of_requires : tie.Need-nodes_of-requires
nodes_of_requires c κs = search rules

clear_requires : tie.Need-clear-requires
clear_requires c κs =
    let v = c.requires.right in
    (whole _ v, none_beyond _ v c.nodes_of.ensures.0 c.nodes_of.ensures.1)

same_length : tie.Need-shape_of-rec
same_length c = search rules

returns_2 : tie.Need-returns
returns_2 c = search rules

pub lose_spec : {M : Type 1} → statement M
lose_spec =
    tie.close
    (tie.spec
    returns
    nodes_of_requires
    clear_requires
    same_length
    returns_2)
