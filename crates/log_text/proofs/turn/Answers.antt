-- By what the step did.
use Rattle.std.proofs.Common.{refl, ◌∙◌}
use Rattle.log_text.proofs.Parts.{turned_line, turned_last, turned_more, turned_end}
use Rattle.log_text.proofs.turn.Goals as goal

pub returns-in-Line : goal.returns-in-Line
returns-in-Line c =
    let A = c.add_line-q.ensures in
    turned_line _ _ _ _ _ _ _ c.requires.0 c.take_step.ensures c.requires.1 _ _ _ _ c.in-Line.is
    (record { put = A.put; at = refl; tally = A.tally; ended = A.ended ∙ c.requires.0; waits = A.waits })

pub returns-in-Last : goal.returns-in-Last
returns-in-Last c =
    let A = c.add_line-q-in-Last.ensures in
    turned_last _ _ _ _ _ _ _ c.requires.0 c.take_step.ensures c.requires.1 _ _ _ c.in-Last.is
    (record { put = A.put; at = A.at; tally = A.tally; ended = refl; waits = A.waits })

pub returns-in-More : goal.returns-in-More
returns-in-More c = turned_more _ _ _ _ _ _ _ c.requires.0 c.take_step.ensures c.in-More.is

pub returns-in-End : goal.returns-in-End
returns-in-End c = turned_end _ _ _ _ _ _ _ c.requires.0 c.take_step.ensures c.in-End.is
