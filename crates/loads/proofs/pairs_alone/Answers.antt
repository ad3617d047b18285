use Rattle.std.proofs.Common.{refl, ap, ◌∙◌, Bool, ◌&&◌}
use Rattle.hypercube.specs.Lists.{all_below}
use Rattle.state.proofs.Below.{all_next}
use Rattle.loads.proofs.pairs_alone.Goals as goal

pub loop-x-init : goal.loop-x-init
unfolding all_below
loop-x-init c = refl

pub loop-x-preserved : goal.loop-x-preserved
loop-x-preserved c =
    let l = c.loop-x in
    let first = rw (c.holder_at.ensures, c.stars_at.ensures) at c.is_first-right.ensures in
    ap (λ (b : Bool). l.right && b) first ∙ all_next _ _ _ l.invariant
