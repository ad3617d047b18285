use Rattle.std.proofs.Common.{◌≡◌, arith, sym, ◌+◌, false}
use Rattle.hypercube.specs.Lists.{all_below}
use Rattle.state.proofs.Below.{all_next, not_all}
use Rattle.loads.specs.Pass.{whole_at}
use Rattle.loads.proofs.whole_to.Goals as goal

pub returns-then-not-is_whole : goal.returns-then-not-is_whole
returns-then-not-is_whole c =
    let e = all_next (whole_at c.args.bytes.now c.args.n) _ _ c.loop-x.invariant in
    let f : all_below (whole_at c.args.bytes.now c.args.n) (c.loop-x.x + 1) ≡ false = cc in
    sym (not_all _ _ c.args.end (omega arith) f)

pub loop-x-preserved : goal.loop-x-preserved
loop-x-preserved c =
    let e = all_next (whole_at c.args.bytes.now c.args.n) _ _ c.loop-x.invariant in cc
