use Rattle.std.proofs.Common.{◌<◌, arith}
use Rattle.hypercube.specs.Lists.{over}
use Rattle.labels.proofs.Assigning.{assigned_none, assigned_inside, assigned_outside, assigned_all}
use Rattle.labels.proofs.assigned.Goals as goal
use Rattle.labels.proofs.assigned.Goals.{then-mask-i-eq1, else-mask-i-eq1}

pub loop-i-init : goal.loop-i-init
unfolding over
loop-i-init c = assigned_none c.args.n c.args.mask c.args.last

pub loop-i-preserved : goal.loop-i-preserved
loop-i-preserved c =
    let h = c.requires.0 in
    let s = c.loop-i.invariant in
    let l : c.loop-i.i < c.args.n = omega arith in
    elim c.if-mask-i-eq1.branch [
      | then-mask-i-eq1 w ↦ rw (w.map-is, w.inside-is, w.outside-is) (assigned_inside h s l w.if-mask-i-eq1.true)
      | else-mask-i-eq1 w ↦ rw (w.map-is, w.inside-is, w.outside-is) (assigned_outside h s l w.if-mask-i-eq1.false)
    ]

pub returns : goal.returns
returns c = assigned_all c.requires.0 c.loop-i.invariant (omega arith)
