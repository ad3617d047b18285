use Rattle.std.proofs.Common.{◌<◌, ◌^◌, arith, sym, ◌∙◌}
use Rattle.hypercube.specs.Levels.{lone}
use Rattle.runs.specs.Flagged.{flagged}
use Rattle.best_fit.specs.Seen.{first_below}
use Rattle.best_fit.proofs.Shown.{block_place, half_fits}
use Rattle.best_fit.proofs.see.Goals as goal
use Rattle.best_fit.proofs.see.Goals.{After-first_lone-x}

-- the first lone pair is there
found : (c : After-first_lone-x) → let a = c.args in let g = flagged a.level.now in
    (first_below a.count (lone g) < 512) × (first_below a.count (lone g) < a.count)
found c =
    let p = c.requires in
    let a = c.args in
    block_place a.k a.d a.count (flagged a.level.now) a.seen a.alone p.zero_one.1 p.count_bound.0 (sym c.takes.ensures ∙ c.if-not-takes.false)

pub free_half-requires : goal.free_half-requires
free_half-requires c = omega (arith, c.first_lone-x.ensures, (found (goal.at.free_half-requires c).After-first_lone-x).0)

pub overflow_mul-result : goal.overflow_mul-result
overflow_mul-result c =
    let g = flagged c.args.level.now in
    let x = c.first_lone-x.result in
    let inside : x < c.args.count = omega (arith, c.first_lone-x.ensures, (found (goal.at.overflow_mul-result c).After-first_lone-x).1) in
    let fits = half_fits g x c.args.count (2 ^ c.args.d) inside c.requires.count_bound.1 in
    rw (c.pow2.ensures, c.free_half.ensures) (omega arith)
