use Rattle.std.proofs.Common.{◌≡◌, ◌+◌, ◌-◌, arith, ◌∙◌, ap₂}
use Rattle.runs.specs.Levels.{both_flags}
use Rattle.runs.proofs.Levels.{laid_none, laid_next, level_fits, twice, both_at, none_more}
use Rattle.runs.proofs.next_level.Goals as goal

pub loop-x-init : goal.loop-x-init
loop-x-init c =
    let a = c.args in
    let before = level_fits a.n (a.d - 1) (omega arith) in
    let two = twice a.n a.d (omega arith) (omega arith) in
    record { laid = laid_none; none = λ e k h. absurd (omega arith); apart = omega arith; inside = omega arith }

pub loop-x-preserved : goal.loop-x-preserved
loop-x-preserved c =
    let I = c.loop-x.invariant in
    let x = c.loop-x.x in
    let from = c.from-before.result in
    let made : c.both-flag.result ≡ both_at c.args.levels.now from c.from-size.result x =
    c.both-flag.ensures ∙ ap₂ both_flags (I.laid.below (from + x) (omega arith)) (I.laid.below (from + c.from-size.result + x) (omega arith)) in
    record {
      laid = laid_next _ I.laid (omega arith) made;
      none = none_more _ c.loop-x.some x _ made I.none;
      apart = I.apart;
      inside = I.inside;
    }
