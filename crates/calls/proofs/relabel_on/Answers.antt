-- The refusal, and the new map.
use Rattle.std.proofs.Common.{refl, sym, ◌∙◌, arith}
use Rattle.state.proofs.Steps.{any_held_as, runs, relabelled_as}
use Rattle.record.specs.Layout.{decode}
use Rattle.steps.proofs.Ways.{state_valid, whole, refuses_at, accepts}
use Rattle.calls.proofs.relabel_on.Goals as goal

pub any_held-requires : goal.any_held-requires
any_held-requires c = ((whole _ c.requires).0, c.nodes_of.ensures.1)

pub returns-then-any_held : goal.returns-then-any_held
returns-then-any_held c =
    refuses_at _ _ _ 0 (λ z. absurd (omega arith))
    (sym (any_held_as (decode c.args.rec.now) _ c.nodes_of.ensures.0 c.any_held.ensures) ∙ c.if-any_held.true)
    c.reply.ensures

pub relabelling-new-requires : goal.relabelling-new-requires
relabelling-new-requires c = ((whole _ c.requires).0, (state_valid _ c.requires).small)

pub set_map-requires-clause-bytes_len : goal.set_map-requires-clause-bytes_len
set_map-requires-clause-bytes_len c = whole _ c.requires

pub returns : goal.returns
returns c =
    accepts _ _ _ refl
    (runs _ _ _ (sym (any_held_as (decode c.args.rec.now) _ c.nodes_of.ensures.0 c.any_held.ensures) ∙ c.if-any_held.false, tt)
    (relabelled_as (decode c.args.rec.now) _ c.relabelling-new.ensures))
    c.set_map.ensures
