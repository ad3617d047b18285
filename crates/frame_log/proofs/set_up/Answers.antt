-- By each way out; set-up's own number is 0, 1 or 7.
use Rattle.std.specs.Prelude.{Ok, Err}
use Rattle.hypercube.specs.declared.Refusal.TheVariants.{NotARecord, LargeDimension}
use Rattle.std.proofs.Common.{sym, ◌∙◌, arith}
use Rattle.frame_log.proofs.Firsts.{first_short, first_length, first_kind, first_size, first_set_up, setup_7}
use Rattle.frame_log.proofs.set_up.Goals as goal
use Rattle.frame_log.proofs.set_up.Goals.{then-len-lt4-via-then-len-lt4, then-len-lt4-via-else-len-lt4+then-from-len}

pub returns-then-len-lt4 : goal.returns-then-len-lt4
returns-then-len-lt4 c =
    elim c.then-len-lt4.branch [
      | then-len-lt4-via-then-len-lt4 w ↦ first_short _ _ (omega arith)
      | then-len-lt4-via-else-len-lt4+then-from-len w ↦ first_length _ _ (omega arith) (λ e. omega arith)
    ]

pub returns-then-word-ne-SETUP : goal.returns-then-word-ne-SETUP
returns-then-word-ne-SETUP c = first_kind _ _ (omega arith) (omega arith) (λ e. omega arith)

pub returns-then-len-ne6 : goal.returns-then-len-ne6
returns-then-len-ne6 c = first_size _ _ (omega arith) (omega arith) (omega arith) (λ e. omega arith)

pub returns-in-0 : goal.returns-in-0
returns-in-0 c =
    first_set_up _ _ (omega arith) (omega arith) (omega arith) (omega arith) _ _ _ (c.from-2.ensures ∙ c.word-3.ensures) c.cube_setup.ensures
    (Ok tt) (sym c.in-0.is)

pub returns-in-1 : goal.returns-in-1
returns-in-1 c =
    first_set_up _ _ (omega arith) (omega arith) (omega arith) (omega arith) _ _ _ (c.from-2.ensures ∙ c.word-3.ensures) c.cube_setup.ensures
    (Err NotARecord) (sym c.in-1.is)

pub returns-in_default : goal.returns-in_default
returns-in_default c =
    first_set_up _ _ (omega arith) (omega arith) (omega arith) (omega arith) _ _ _ (c.from-2.ensures ∙ c.word-3.ensures) c.cube_setup.ensures
    (Err LargeDimension) (sym (setup_7 _ _ _ c.cube_setup.ensures.returned (λ e. omega arith) (λ e. omega arith)))
