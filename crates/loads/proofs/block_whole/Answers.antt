use Rattle.std.proofs.Common.{◌∙◌}
use Rattle.loads.proofs.Pass.{none_held}
use Rattle.loads.proofs.block_whole.Goals as goal

pub returns-then-all_zero : goal.returns-then-all_zero
returns-then-all_zero c =
    let p = c.requires.1 in
    let zero = rw (c.from.ensures, c.from-2.ensures) at c.all_zero.ensures in
    c.if-all_zero.true ∙ p.1.1.1 ∙ none_held _ _ _ _ c.requires.0 p.1.0 p.1.1.0 zero c.if-all_zero.true
