-- A member's test is the list's.
use Rattle.std.proofs.Common.{sym, ap, ◌∙◌, arith}
use Rattle.hypercube.specs.declared.Walk.TheVariants.{NoneFree}
use Rattle.walks.proofs.Rests.{left_next, left_done}
use Rattle.walks.proofs.Turns.{misses, hits, ends, one_fails, one_passes}
use Rattle.walks.proofs.each_walk.Goals as goal

pub returns-then-member_free : goal.returns-then-member_free
returns-then-member_free g c =
    rw c.loop-alpha.invariant.counted
    (hits c.loop-alpha.invariant.stands _ _ (left_next _ _ _ _ c.loop-alpha-test.true)
    (one_passes _ c.member-m.ensures _ (sym c.member_free.ensures ∙ c.if-member_free.true)))

pub loop-alpha-preserved : goal.loop-alpha-preserved
loop-alpha-preserved g c =
    record {
      stands =
          misses c.loop-alpha.invariant.stands _ _ (left_next _ _ _ _ c.loop-alpha-test.true)
          (one_fails _ c.member-m.ensures _ (sym c.member_free.ensures ∙ c.if-member_free.false));
      counted = omega arith;
    }

pub returns : goal.returns
returns g c = ap NoneFree c.loop-alpha.invariant.counted ∙ ends c.loop-alpha.invariant.stands (left_done _ _ _ _ c.loop-alpha-test.false)
