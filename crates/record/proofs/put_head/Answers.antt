use Rattle.std.proofs.Common.{rules}
use Rattle.state.proofs.Valid.{Sized}
use Rattle.record.proofs.Stored.{head_stored}
use Rattle.record.proofs.put_head.Goals as goal

pub returns : goal.returns
returns c =
    let sized : Sized c.args.s = record { directions = search rules; holders = search rules; conditions = search rules; stars = search rules } in
    head_stored sized c.requires c.put_word.ensures c.put_word-2.ensures c.copy_from_slice.ensures.after
