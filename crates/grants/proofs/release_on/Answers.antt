-- The two refusals, by their places in the list of checks, and the release.
use Rattle.std.proofs.Common.{refl, ap, arith}
use mathlib.Core.Bool.{not}
use borrow.Author.Tests.{eq-eqb, ne_eqb}
use Rattle.state.proofs.Steps.{counted, holds_none, holds_some, runs, done_as}
use Rattle.record.specs.Layout.{decode}
use Rattle.steps.proofs.Ways.{whole, refuses_at, accepts}
use Rattle.grants.proofs.Read.{none_beyond}
use Rattle.grants.proofs.release_on.Goals as goal

pub returns-then-job-eq0 : goal.returns-then-job-eq0
returns-then-job-eq0 c = refuses_at _ _ _ 0 (λ z. absurd (omega arith)) (eq-eqb _ 0 c.if-job-eq0.true) c.reply.ensures

pub count_held-count-requires : goal.count_held-count-requires
count_held-count-requires c = ((whole _ c.requires).0, c.nodes_of-size.ensures.1)

pub returns-then-count-eq0 : goal.returns-then-count-eq0
returns-then-count-eq0 c =
    refuses_at _ _ _ 1 (λ z. absurd (omega arith)) (
      ne_eqb _ 0 c.if-job-eq0.false,
      ap not (holds_none (decode c.args.rec.now) c.args.job _ _ c.nodes_of-size.ensures.0 c.count_held-count.ensures c.if-count-eq0.true),
    )
    c.reply-then-count-eq0.ensures

pub clear-requires : goal.clear-requires
clear-requires c =
    let v = c.requires in
    let beyond = none_beyond _ v c.nodes_of-size.ensures.0 c.nodes_of-size.ensures.1 in
    record { bytes_len = whole _ v; empty_from = beyond }

pub returns : goal.returns
returns c =
    let s = decode c.args.rec.now in
    let e = c.nodes_of-size.ensures.0 in
    let q = c.count_held-count.ensures in
    accepts _ _ _ refl
    (runs _ _ _ (ne_eqb _ 0 c.if-job-eq0.false, (ap not (holds_some s c.args.job _ _ e q c.if-count-eq0.false), tt))
    (done_as _ (counted s c.args.job _ _ e q)))
    c.clear.ensures
