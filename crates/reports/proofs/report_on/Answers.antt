-- The two refusals, by their places in the list of checks, and the report.
use Rattle.std.proofs.Common.{refl, sym, ◌∙◌, arith}
use Rattle.state.proofs.Steps.{runs, done_as}
use Rattle.steps.proofs.Ways.{refuses_at, accepts}
use Rattle.reports.proofs.Inside.{node-asked, node-written, barred_is}
use Rattle.reports.proofs.report_on.Goals as goal

pub returns-then-beyond : goal.returns-then-beyond
returns-then-beyond c = refuses_at _ _ _ 0 (λ z. absurd (omega arith)) (sym c.beyond.ensures ∙ c.if-beyond.true) c.reply.ensures

pub condition_at-requires : goal.condition_at-requires
condition_at-requires c = node-asked _ _ c.beyond.ensures c.requires c.if-beyond.false

pub returns-then-is_barred : goal.returns-then-is_barred
returns-then-is_barred c =
    refuses_at _ _ _ 1 (λ z. absurd (omega arith)) (
      sym c.beyond.ensures ∙ c.if-beyond.false,
      barred_is c.args.reported c.condition_at.ensures c.is_barred.ensures c.if-is_barred.true,
    )
    c.reply-then-is_barred.ensures

pub told_of-told-requires : goal.told_of-told-requires
told_of-told-requires c = node-asked _ _ c.beyond.ensures c.requires c.if-beyond.false

pub set_condition-requires : goal.set_condition-requires
set_condition-requires c = node-written _ _ c.beyond.ensures c.requires c.if-beyond.false

pub returns : goal.returns
returns c =
    accepts _ _ _ refl
    (runs _ _ _ (
      sym c.beyond.ensures ∙ c.if-beyond.false,
      (barred_is c.args.reported c.condition_at.ensures c.is_barred.ensures c.if-is_barred.false, tt),
    )
    (done_as _ c.told_of-told.ensures))
    c.set_condition.ensures
