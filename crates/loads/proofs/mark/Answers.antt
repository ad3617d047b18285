use Rattle.std.proofs.Common.{◌/◌, ◌<◌, length, rules}
use Rattle.loads.proofs.Marks.{marked, not_marked}
use Rattle.loads.proofs.mark.Goals as goal

pub returns : goal.returns
returns c =
    let a = c.args in
    let within : a.j / 8 < length a.marks.now = search rules in
    rw c.from-at.ensures (not_marked a.marks.now a.j, marked a.marks.now a.j within)
