-- Where digit p of α is 0, the member is free where its other block is, as the level tells it.
use Rattle.std.proofs.Common.{[], ◌∷◌, refl, sym, ap, ◌∙◌, arith}
use Rattle.hypercube.specs.Subcubes.{is_free}
use Rattle.walks.proofs.Blocks.{alpha_inside, member_room, member_told, other_row}
use Rattle.walks.proofs.Rests.{left_done, digit-zero, digit_one}
use Rattle.walks.proofs.Turns.{stays, counts, misses, hits, ends, one_fails, one_passes}
use Rattle.walks.proofs.row_walk.Goals as goal
use Rattle.walks.proofs.row_walk.Goals.{then-digit-eq0+else-block_at, else-digit-eq0}

pub overflow_add-tried : goal.overflow_add-tried
overflow_add-tried c =
    omega (
      arith,
      counts c.loop-p.invariant (_ ∷ []) _ (digit-zero _ _ _ _ _ c.loop-p-test.true (sym c.digit.ensures ∙ c.if-digit-eq0.true)),
      c.requires.d_bound,
    )

pub block_at-requires : goal.block_at-requires
block_at-requires c = (
  omega arith,
  omega arith,
  rw c.pow2.ensures (alpha_inside (other_row c.requires.row.0 c.loop-p-test.true (sym c.digit.ensures ∙ c.if-digit-eq0.true))),
)

pub tree_member-requires-clause-inside : goal.tree_member-requires-clause-inside
tree_member-requires-clause-inside c = (member_room c.requires.row.0 c.loop-p-test.true (sym c.digit.ensures ∙ c.if-digit-eq0.true)).0

pub returns-then-block_at : goal.returns-then-block_at
returns-then-block_at c =
    let z = sym c.digit.ensures ∙ c.if-digit-eq0.true in
    hits c.loop-p.invariant _ _ (digit-zero _ _ _ _ _ c.loop-p-test.true z)
    (one_passes _ c.tree_member.ensures _
    (ap (is_free _) c.tree_member.ensures
    ∙ member_told c.requires.row.0 c.loop-p-test.true z _ _ c.requires.alpha_value c.requires.level c.pow2.ensures c.block_at.ensures
    ∙ c.if-block_at.true))

pub loop-p-preserved : goal.loop-p-preserved
loop-p-preserved c =
    elim c.if-digit-eq0.branch [
      | then-digit-eq0+else-block_at w ↦
          let z = sym c.digit.ensures ∙ w.if-digit-eq0.true in
          rw w.tried-is
          (misses c.loop-p.invariant _ _ (digit-zero _ _ _ _ _ c.loop-p-test.true z)
          (one_fails _ refl _
          (member_told c.requires.row.0 c.loop-p-test.true z _ _ c.requires.alpha_value c.requires.level w.pow2.ensures w.block_at.ensures
          ∙ w.if-block_at.false)))
      | else-digit-eq0 w ↦
          rw w.tried-is
          (stays c.loop-p.invariant (digit_one _ _ _ _ _ c.loop-p-test.true (λ z. w.if-digit-eq0.false (c.digit.ensures ∙ z))))
    ]

pub returns : goal.returns
returns c = ends c.loop-p.invariant (left_done _ _ _ _ c.loop-p-test.false)
