-- The refusals by the fields and by the check, and the grant.
use Rattle.std.proofs.Common.{refl, arith}
use Rattle.std.proofs.lemmas.Result.{err_from_is_err_and}
use Rattle.state.proofs.Steps.{counted, fields-refused, fields_fit, fields_run}
use Rattle.record.specs.Layout.{decode}
use Rattle.steps.proofs.Ways.{state_valid, whole, refuses, by_step}
use Rattle.grants.proofs.Checked.{refusal_numbered}
use Rattle.grants.proofs.asked.Goals as goal

pub returns-in_err-field_cause : goal.returns-in_err-field_cause
returns-in_err-field_cause g c t h =
    let p = err_from_is_err_and c.from_residual.result c.from_residual.ensures.1 in
    let nonzero = refusal_numbered c.in_err-field_cause.field-0.0 in
    rw (p.1, p.2) (refuses _ _ nonzero (fields-refused _ _ _ _ _ c.in_err-field_cause.ensures _ t nonzero) refl)

pub count_held-held-requires : goal.count_held-held-requires
count_held-held-requires g c = ((whole _ c.requires.right).0, c.nodes_of.ensures.1)

pub check-requires : goal.check-requires
check-requires g c =
    let fit = fields_fit _ _ _ _ _ c.in_ok-field_cause.ensures refl in
    c.requires.callable _ (omega (arith, fit.1, (state_valid _ c.requires.right).small))

pub returns-in_err-check : goal.returns-in_err-check
returns-in_err-check g c t h =
    let p = err_from_is_err_and c.from_residual-in_err-check.result c.from_residual-in_err-check.ensures.1 in
    let held = counted (decode c.args.rec.now) c.args.job _ _ c.nodes_of.ensures.0 c.count_held-held.ensures in
    rw (p.1, p.2)
    (refuses _ _ (refusal_numbered c.in_err-check.field-0.0)
    (fields_run _ _ _ _ _ c.in_ok-field_cause.ensures refl _ t tt (h _ _ held c.in_err-check.ensures)) refl)

pub grant_on-requires : goal.grant_on-requires
grant_on-requires g c =
    let fit = fields_fit _ _ _ _ _ c.in_ok-field_cause.ensures refl in
    let held = counted (decode c.args.rec.now) c.args.job _ _ c.nodes_of.ensures.0 c.count_held-held.ensures in
    (record { right = c.requires.right; set = fit.0; counted = held }, fit.1)

pub returns : goal.returns
returns g c t h =
    let held = counted (decode c.args.rec.now) c.args.job _ _ c.nodes_of.ensures.0 c.count_held-held.ensures in
    by_step _ (fields_run _ _ _ _ _ c.in_ok-field_cause.ensures refl _ t tt (h _ _ held c.in_ok-check.ensures)) c.grant_on.ensures
