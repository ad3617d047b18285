-- A state that isn't right, and any other, by way of its record.
use Rattle.std.proofs.Common.{rules, sym, ◌∙◌}
use Rattle.state.proofs.Valid.{Sized}
use Rattle.allocator.proofs.ByRecord.{by_record_1, by_record}
use Rattle.allocator.proofs.call_on.Goals as goal

pub returns-then-not-is_valid : goal.returns-then-not-is_valid
returns-then-not-is_valid c =
    let z : Sized c.args.s = record { directions = search rules; holders = search rules; conditions = search rules; stars = search rules } in
    by_record_1 _ z c.args.c c.store.ensures (sym c.is_valid.ensures ∙ c.if-not-is_valid.true) c.reply.ensures

pub returns : goal.returns
returns c =
    let z : Sized c.args.s = record { directions = search rules; holders = search rules; conditions = search rules; stars = search rules } in
    by_record _ z c.args.c c.store.ensures (sym c.is_valid.ensures ∙ c.if-not-is_valid.false)
    c.call_record-reply.ensures c.load-state.ensures
