-- The outcomes of more than one item, each of which is the number that it was widened from.
use Rattle.lines.proofs.Puts.{item_then, said_put}
use Rattle.lines.proofs.put_outcome.Goals as goal

pub returns-in-Granted : goal.returns-in-Granted
returns-in-Granted c =
    let j = rw c.from-in-Granted.ensures at c.put_item-after_job.ensures in
    let l = rw c.from-in-Granted-2.ensures at c.put_item-after_low.ensures in
    let s = rw c.from-in-Granted-3.ensures at c.put_item-after_stars.ensures in
    let t = rw c.from-in-Granted-4.ensures at c.put_last-in-Granted.ensures in
    said_put _ _ c.in-Granted.is (item_then _ j (item_then _ l (item_then _ s t)))

pub returns-in-Refused : goal.returns-in-Refused
returns-in-Refused c =
    let t = rw c.from-in-Refused.ensures at c.put_last-in-Refused.ensures in
    said_put _ _ c.in-Refused.is (item_then _ c.put_item-after_number.ensures t)
