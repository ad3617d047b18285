use Rattle.std.proofs.Common.{arith, sym}
use Rattle.runs.specs.Flagged.{flagged}
use Rattle.runs.proofs.Runs.{run_none, run_flag}
use Rattle.runs.proofs.run_free.Goals as goal

pub loop-flag-init : goal.loop-flag-init
loop-flag-init c = sym (run_none (flagged c.args.flags.now) c.from-start.result)

pub loop-flag-preserved : goal.loop-flag-preserved
loop-flag-preserved c =
    let l = c.loop-flag in
    run_flag c.args.flags.now c.from-start.result _ l.flag-index l.lacking _ (omega arith) c.lack-lacking.ensures l.invariant
