use Rattle.std.proofs.Common.{◌≡◌, ◌-◌, ℕ, suc, arith, subst}
use Rattle.planes.proofs.Folds.{Bottom, bottom_next, bottom_end, bottom_empty}
use Rattle.planes.proofs.fold_bottom.Goals as goal

pub returns-then-is_empty : goal.returns-then-is_empty
returns-then-is_empty c =
    let l = c.loop-i in
    λ f s z F. bottom_end {bs = l.folded} (bottom_empty l.i (omega arith) (c.is_empty.ensures c.if-is_empty.true) (l.invariant f s z F))

pub loop-i-preserved : goal.loop-i-preserved
loop-i-preserved c =
    let l = c.loop-i in
    let e : l.i ≡ suc (l.i - 1) = omega arith in
    λ f s z F.
    bottom_next (l.i - 1) c.fold_star-folded.result (omega arith)
    (subst (λ (i : ℕ). Bottom f s c.args.l i l.folded) e (l.invariant f s z F)) c.fold_star-folded.ensures

pub returns : goal.returns
returns c =
    let l = c.loop-i in
    let e : l.i ≡ 0 = omega arith in
    λ f s z F. bottom_end {bs = l.folded} (subst (λ (i : ℕ). Bottom f s c.args.l i l.folded) e (l.invariant f s z F))
