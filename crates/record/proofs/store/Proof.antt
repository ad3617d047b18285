-- `record::store` meets its contract: one part after the other, and in the end the record is the state's. Assumes nothing.
use borrow.Author.Rules.{rules}
use Rattle.state.proofs.Valid.{Sized}
use Rattle.record.specs.Layout.{holders_at, stars_at}
use Rattle.record.proofs.Round.{says_holders, says_stars}
use Rattle.record.proofs.Stored.{begun_laid, stored_all}
use Rattle.record.proofs.store.Statement.{statement}
use Rattle.record.proofs.store.Tie as tie

sized : (c : tie.Start) → Sized c.args.s
sized c = record { directions = search rules; holders = search rules; conditions = search rules; stars = search rules }

put_head_requires : tie.Need-put_head-requires
put_head_requires c κs = search rules

put_words_requires : tie.Need-put_words-requires
put_words_requires c κs = search rules

put_conditions_requires : tie.Need-put_conditions-requires
put_conditions_requires c κs =
    begun_laid _ holders_at _ (says_holders _ (sized c.before.before.before.before.before.before.before.before.before.before.before.before)) c.put_head.ensures.begun c.put_words.ensures

put_words_requires_2 : tie.Need-put_words-requires-2
put_words_requires_2 c κs = search rules

same_length : tie.Need-shape_of-bytes
same_length c = search rules

returns : tie.Need-returns
returns c =
    let z = sized c.before.before.before.before.before.before.before.before.before.before.before.before.before.before.before.before.before.before.before.before.before in
    stored_all z (begun_laid _ stars_at _ (says_stars _ z) c.put_conditions.ensures.begun c.put_words-2.ensures)

pub store_spec : {M : Type 1} → statement M
store_spec =
    tie.close
    (tie.spec
    put_head_requires
    put_words_requires
    put_conditions_requires
    put_words_requires_2
    same_length
    returns)
