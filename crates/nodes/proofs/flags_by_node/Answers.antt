use Rattle.std.proofs.Common.{ℕ, arith, sym, ◌∙◌}
use mathlib.Core.Path.{ap₂}
use Rattle.hypercube.proofs.Filled.{swept_put}
use Rattle.labels.specs.Flags.{flag, flag_of}
use Rattle.labels.proofs.Flags.{swept_empty}
use Rattle.record.proofs.Round.{decode_holder, decode_condition}
use Rattle.nodes.proofs.flags_by_node.Goals as goal

pub loop-x-preserved : goal.loop-x-preserved
unfolding flag
loop-x-preserved c =
    let r = c.args.bytes.now in
    let x = c.loop-x.x in
    let v =
    c.flag_of.ensures
    ∙ ap₂ (λ (d h : ℕ). flag_of d h c.args.job) (sym (decode_condition r x (omega arith))) (c.word.ensures ∙ sym (decode_holder r x (omega arith))) in
    swept_put _ c.loop-x.invariant (omega arith) v

pub returns : goal.returns
returns c = swept_empty c.requires.empty_from c.loop-x.invariant (omega arith)
