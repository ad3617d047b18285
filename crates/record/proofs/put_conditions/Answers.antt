use Rattle.std.proofs.Common.{rules, arith, sym}
use Rattle.state.proofs.Valid.{Sized}
use Rattle.record.proofs.Round.{encode_condition}
use Rattle.record.proofs.Stored.{stored_from, stored_part}
use Rattle.record.proofs.put_conditions.Goals as goal

pub returns : goal.returns
returns c =
    let sized : Sized c.args.s = record { directions = search rules; holders = search rules; conditions = search rules; stars = search rules } in
    rw c.copy_from_slice.ensures.after
    (stored_part 1024 c.args.s.conditions (stored_from c.requires) sized.conditions (omega arith) (λ x h. sym (encode_condition c.args.s sized x h)))
