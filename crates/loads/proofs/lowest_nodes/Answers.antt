use Rattle.std.proofs.Common.{◌≡◌, ◌≤◌, Bool, true, false, cond, refl, arith, ap, ◌∙◌}
use mir.Val.{bool_byte}
use Rattle.hypercube.specs.Lists.{count_below}
use Rattle.state.proofs.Below.{count_next}
use Rattle.loads.specs.Pass.{lowest_at}
use Rattle.loads.proofs.lowest_nodes.Goals as goal

byte : (b : Bool) → (bool_byte b ≡ cond b 1 0) × (bool_byte b ≤ 1)
byte true = (refl, omega arith)
byte false = (refl, omega arith)

pub loop-x-init : goal.loop-x-init
unfolding count_below
loop-x-init c = (refl, omega arith)

pub loop-x-preserved : goal.loop-x-preserved
loop-x-preserved c =
    let lowest = rw (c.holder_at.ensures, c.stars_at.ensures) at c.is_lowest.ensures in
    let one = c.from-count.ensures ∙ (byte c.is_lowest.result).0 ∙ ap (λ (b : Bool). cond b 1 0) lowest in
    let next = count_next (lowest_at c.args.bytes.now) c.loop-x.x c.loop-x.count c.loop-x.invariant.0 in
    (omega (arith, one, next), omega (arith, c.from-count.ensures, (byte c.is_lowest.result).1))
