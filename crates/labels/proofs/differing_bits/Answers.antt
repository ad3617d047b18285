use Rattle.std.proofs.Common.{◌≡◌, ◌∙◌, ◌^◌, sym, arith}
use Rattle.labels.specs.Relabelling.{not_good}
use Rattle.labels.proofs.Flags.{cube_le}
use Rattle.labels.proofs.Differing.{masks_more, masks_same, masks_all}
use Rattle.labels.proofs.differing_bits.Goals as goal
use Rattle.labels.proofs.differing_bits.Goals.{then-is_not_good, else-is_not_good}

pub is_not_good-requires : goal.is_not_good-requires
is_not_good-requires c = omega (arith, c.pow2-count.ensures, cube_le c.args.n c.requires.0)

pub loop-x-preserved : goal.loop-x-preserved
loop-x-preserved c =
    let l = c.loop-x in
    let test = not_good c.args.conditions.now in
    let is = sym c.is_not_good.ensures in
    elim c.if-is_not_good.branch [
      | then-is_not_good w ↦ rw (w.ones-is, w.zeros-is) (masks_more test l.x l.ones l.zeros (is ∙ w.if-is_not_good.true) l.invariant)
      | else-is_not_good w ↦ rw (w.ones-is, w.zeros-is) (masks_same test l.x l.ones l.zeros (is ∙ w.if-is_not_good.false) l.invariant)
    ]

pub returns : goal.returns
returns c =
    let a = c.args in
    let l = c.loop-x in
    let e : l.x ≡ 2 ^ a.n = omega (arith, c.pow2-count.ensures) in
    masks_all a.n (not_good a.conditions.now) l.ones l.zeros c.requires.0 (rw e at l.invariant)
