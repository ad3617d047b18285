use Rattle.std.proofs.Common.{◌≡◌, arith, sym, ◌∙◌, ap₂, min}
use Rattle.hypercube.specs.Levels.{lone}
use Rattle.runs.specs.Flagged.{flagged}
use Rattle.best_fit.specs.Seen.{placed}
use Rattle.best_fit.proofs.Counts.{first_none, first_more}
use Rattle.best_fit.proofs.Pairs.{place_at}
use Rattle.best_fit.proofs.first_lone.Goals as goal

pub loop-x-init : goal.loop-x-init
loop-x-init c = sym (first_none _)

pub loop-x-preserved : goal.loop-x-preserved
loop-x-preserved c =
    let x = c.loop-x.x in
    let f = flagged c.args.level.now in
    let p : c.place.result ≡ placed (lone f x) x =
    place_at c.args.count x c.args.level.now _ c.requires.1 (omega arith) (rw c.from-at.ensures at c.pair.ensures) c.place.ensures in
    c.min-first.ensures ∙ ap₂ min c.loop-x.invariant p ∙ first_more (lone f) x
