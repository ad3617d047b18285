use Rattle.std.proofs.Common.{◌∙◌, refl}
use Rattle.hypercube.specs.Lists.{all_below}
use Rattle.state.proofs.Below.{all_next}
use Rattle.record.specs.Layout.{star_of}
use Rattle.record.proofs.Parts.{stray_next}
use Rattle.record.proofs.none_stray.Goals as goal

pub loop-x-init : goal.loop-x-init
unfolding all_below
loop-x-init c = refl

pub loop-x-preserved : goal.loop-x-preserved
loop-x-preserved c =
    rw (c.stray-any.ensures, c.word.ensures, c.word-in-loop-x.ensures)
    (stray_next c.loop-x.any _ _ ∙ all_next (star_of c.args.bytes.now) c.loop-x.x _ c.loop-x.invariant)
