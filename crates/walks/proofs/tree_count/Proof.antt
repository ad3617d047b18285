-- `walks::tree_count` meets its contract. Assumes nothing.
use mathlib.Core.Path.{sym}
use native.Mathlib.Omega.{arith}
use borrow.Author.Rules.{rules}
use Rattle.hypercube.proofs.Counts.{tree_count}
use Rattle.walks.proofs.Trees.{tree_few}
use Rattle.walks.proofs.tree_count.Statement.{statement}
use Rattle.walks.proofs.tree_count.Tie as tie

sub_result : tie.Need-overflow_sub-result
sub_result c = search rules

add_result : tie.Need-overflow_add-result
add_result c = search rules

sub_pow2 : tie.Need-overflow_sub-n
sub_pow2 c = search rules

pow2_requires : tie.Need-pow2-requires
pow2_requires c κs = search rules

mul_result : tie.Need-overflow_mul-result
mul_result c =
    let a = c.args in
    rw c.pow2.ensures (omega (
      arith,
      tree_count a.n a.k (omega arith) (omega arith),
      tree_few a.n a.k (omega arith)
          (omega arith) (omega arith),
    ))

returns : tie.Need-returns
returns c = rw c.pow2.ensures (sym (tree_count c.args.n c.args.k (omega arith) (omega arith)))

pub tree_count_spec : {M : Type 1} → statement M
tree_count_spec =
    tie.close
    (tie.spec
    sub_result
    add_result
    sub_pow2
    pow2_requires
    mul_result
    returns)
