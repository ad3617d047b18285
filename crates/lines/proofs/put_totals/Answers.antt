use Rattle.lines.specs.Text.{totals_of}
use Rattle.lines.proofs.Puts.{item_then}
use Rattle.lines.proofs.put_totals.Goals as goal

pub returns : goal.returns
unfolding totals_of
returns c =
    item_then _ c.put_item-after_total.ensures (item_then _ c.put_item-after_setup.ensures
    (item_then _ c.put_item-after_done.ensures (item_then _ c.put_item-after_granted.ensures c.put_last.ensures)))
