use Rattle.std.proofs.Common.{sym, refl, arith, ◌∙◌, eqb, get_or, eq-eqb}
use borrow.Author.Tests.{ne_eqb}
use Rattle.hypercube.specs.Lists.{count_below}
use Rattle.state.proofs.Below.{count_next}
use Rattle.record.specs.Layout.{decode}
use Rattle.record.proofs.Round.{decode_holder}
use Rattle.nodes.proofs.count_held.Goals as goal
use Rattle.nodes.proofs.count_held.Goals.{then-word-job, else-word-job}

pub loop-x-init : goal.loop-x-init
unfolding count_below
loop-x-init c = (refl, omega arith)

pub loop-x-preserved : goal.loop-x-preserved
loop-x-preserved c =
    let r = c.args.bytes.now in
    let j = c.args.job in
    let x = c.loop-x.x in
    let next = count_next (λ k. eqb (get_or (decode r).holders k 0) j) x _ c.loop-x.invariant.0 in
    let h = decode_holder r x (omega arith) ∙ sym c.word.ensures in
    elim c.if-word-job.branch [
      | then-word-job w ↦ (w.count-is ∙ rw (eq-eqb (get_or (decode r).holders x 0) j (h ∙ w.if-word-job.true)) at next, omega arith)
      | else-word-job w ↦
          let n = rw (ne_eqb (get_or (decode r).holders x 0) j (λ e. w.if-word-job.false (sym h ∙ e))) at next in (omega arith, omega arith)
    ]
