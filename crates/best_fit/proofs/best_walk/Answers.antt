use Rattle.std.proofs.Common.{◌≡◌, ◌-◌, ◌+◌, ◌*◌, ◌^◌, ◌≤◌, arith, ap, ◌∙◌}
use Rattle.std.proofs.Math.Pow.{pow_pos, pow_mono}
use Rattle.hypercube.specs.Lists.{count_below}
use Rattle.hypercube.specs.Levels.{joined, lone, level}
use Rattle.runs.specs.Flagged.{flagged}
use Rattle.best_fit.specs.declared.Seen.{Seen}
use Rattle.best_fit.specs.Seen.{answering}
use Rattle.best_fit.proofs.Counts.{count_le}
use Rattle.best_fit.proofs.Pairs.{told}
use Rattle.best_fit.proofs.Shown.{pairs_fit, pairs_small, laid_first, tells, pairs_zero_one, alone_count, laid_above}
use Rattle.best_fit.proofs.Shown.{shown_first, tried_small, shown_next, shown_answer}
use Rattle.best_fit.proofs.best_walk.Goals as goal
use Rattle.best_fit.proofs.best_walk.Goals.{After-pow2-count, After-join-both}

pub first_level-free-requires : goal.first_level-free-requires
first_level-free-requires c = omega (arith, pow_mono {i = c.args.n} {j = 10} (omega arith))

pub loop-d-init : goal.loop-d-init
loop-d-init c =
    let a = c.args in
    let f = flagged a.flags.now in
    record { laid = laid_first f a.n _ _ _ c.pow2.ensures c.first_level-free.ensures; shown = shown_first a.n a.k f }

-- so many pairs has level d
few : (c : After-pow2-count) → c.pow2-count.result ≤ 512
few c = rw c.pow2-count.ensures (pairs_small c.args.n c.loop-d.d (omega arith) (omega arith))

pub join-both-requires : goal.join-both-requires
join-both-requires c = (
  few (goal.at.join-both-requires c).After-pow2-count,
  rw c.pow2-count.ensures (pairs_zero_one (flagged c.args.flags.now) c.args.n c.loop-d.d (omega arith) c.loop-d.invariant.laid),
)

-- the free of level d: those alone, and those of pairs
split : (c : After-join-both)
    → c.loop-d.free ≡ count_below c.pow2-count.result (lone (flagged c.loop-d.level)) + 2 * c.join-both.result
split c =
    let e = c.pow2-count.ensures in
    let J = rw e at c.join-both.ensures.count in
    rw e (omega (arith, J, alone_count (flagged c.args.flags.now) c.args.n c.loop-d.d (omega arith) c.loop-d.invariant.laid))

pub overflow_mul-both : goal.overflow_mul-both
overflow_mul-both c =
    omega (
      arith,
      few (goal.at.overflow_mul-both c).After-pow2-count,
      c.join-both.ensures.count,
      count_le (joined (flagged c.loop-d.level)) c.pow2-count.result,
    )

pub overflow_sub-free : goal.overflow_sub-free
overflow_sub-free c = omega (arith, split (goal.at.overflow_sub-free c).After-join-both)

pub see-seen-requires-clause-count_bound : goal.see-seen-requires-clause-count_bound
see-seen-requires-clause-count_bound c =
    let l = c.loop-d in
    let a = c.args in
    let at = goal.at.see-seen-requires-clause-count_bound c in
    let small = few at.After-pow2-count in
    let tried = tried_small a.n a.k l.d (flagged a.flags.now) l.seen (omega arith) l.invariant.shown in
    let alone = count_le (lone (flagged l.level)) c.pow2-count.result in (
      small,
      rw c.pow2-count.ensures (pairs_fit a.n l.d (omega arith) (omega arith)),
      omega arith,
      omega (arith, small, split at.After-join-both, tried, alone),
    )

pub see-seen-requires-clause-zero_one : goal.see-seen-requires-clause-zero_one
see-seen-requires-clause-zero_one c = (
  rw c.pow2-count.ensures (pairs_zero_one (flagged c.args.flags.now) c.args.n c.loop-d.d (omega arith) c.loop-d.invariant.laid),
  omega (arith, split (goal.at.see-seen-requires-clause-zero_one c).After-join-both),
)

pub rise-requires : goal.rise-requires
rise-requires c = few (goal.at.rise-requires c).After-pow2-count

pub loop-d-preserved : goal.loop-d-preserved
loop-d-preserved c =
    let l = c.loop-d in
    let a = c.args in
    let e = c.pow2-count.ensures in
    let f = flagged a.flags.now in
    record {
      laid = laid_above f a.n l.d (omega arith) l.invariant.laid (rw e at c.join-both.ensures) (rw e at c.rise.ensures);
      shown = rw (c.see-seen.ensures, e) (shown_next a.n a.k l.d f (flagged l.level) l.seen (omega arith) (omega arith)
          (tells f a.n l.d (omega arith) l.invariant.laid) l.invariant.shown);
    }

pub see_top-requires : goal.see_top-requires
see_top-requires c =
    let l = c.loop-d in
    omega (arith, tried_small c.args.n c.args.k l.d (flagged c.args.flags.now) l.seen (omega arith) l.invariant.shown)

pub returns : goal.returns
returns c =
    let l = c.loop-d in
    let a = c.args in
    let f = flagged a.flags.now in
    let e : l.d ≡ a.n = omega arith in
    let top : flagged l.level 0 ≡ level f l.d 0 = told (level f l.d) (2 ^ (a.n - l.d)) l.level l.invariant.laid.tells 0 (pow_pos (a.n - l.d)) in
    c.answer.ensures ∙ ap (λ (s : Seen). answering a.k s.taken s.tried) c.see_top.ensures
    ∙ shown_answer a.n a.k f l.seen (flagged l.level 0) (omega arith) (omega arith) (rw e at l.invariant.shown) (rw e at top)
