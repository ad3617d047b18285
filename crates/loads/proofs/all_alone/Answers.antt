use Rattle.std.proofs.Common.{◌≡◌, refl, sym, arith, ◌+◌, false}
use Rattle.hypercube.specs.Lists.{all_below}
use Rattle.state.proofs.Below.{all_next, not_all}
use Rattle.loads.specs.Pass.{alone_at}
use Rattle.loads.proofs.Marks.{marks_none, marks_next, alone_by}
use Rattle.loads.proofs.all_alone.Goals as goal

pub loop-x-init : goal.loop-x-init
unfolding all_below
loop-x-init c = (refl, marks_none _)

pub returns-then-not-is_alone : goal.returns-then-not-is_alone
returns-then-not-is_alone c =
    let l = c.loop-x in
    let a = alone_by l.invariant.1 c.holder_at.ensures c.stars_at.ensures c.if-not-is_alone.ensures.0 in
    let e = all_next (alone_at c.args.bytes.now) _ _ l.invariant.0 in
    let f : all_below (alone_at c.args.bytes.now) (l.x + 1) ≡ false = cc in
    sym (not_all _ _ c.args.size (omega arith) f)

pub loop-x-preserved : goal.loop-x-preserved
loop-x-preserved c =
    let l = c.loop-x in
    let eh = c.holder_at.ensures in
    let es = c.stars_at.ensures in
    let a = alone_by l.invariant.1 eh es c.if-not-is_alone.ensures.0 in
    let e = all_next (alone_at c.args.bytes.now) _ _ l.invariant.0 in (
      cc,
      marks_next l.invariant.1 eh es c.if-not-is_alone.ensures.1,
    )
