-- By what the window has from the cursor on.
use Rattle.std.proofs.Common.{sym, ◌∙◌, arith, length-drop}
use Rattle.frame_log.proofs.Nexts.{word-drop, next_none, next_lone, next_under, next_past, next_whole}
use Rattle.frame_log.proofs.next_frame.Goals as goal

pub returns-then-last : goal.returns-then-last
returns-then-last c = sym (next_none _ _ _ (rw length-drop (omega arith)) ∙ rw c.if-last.true)

pub returns-else-last : goal.returns-else-last
returns-else-last c = sym (next_none _ _ _ (rw length-drop (omega arith)) ∙ rw c.if-last.false)

pub returns-then-left-lt2 : goal.returns-then-left-lt2
returns-then-left-lt2 c = c.unfinished.ensures ∙ sym (next_lone _ _ _ (rw length-drop (omega arith)))

pub returns-then-size-lt4 : goal.returns-then-size-lt4
returns-then-size-lt4 c = sym (next_under _ _ _ (rw length-drop (omega arith)) (rw word-drop (omega arith)))

pub returns-then-left-size : goal.returns-then-left-size
returns-then-left-size c =
    c.unfinished-then-left-size.ensures ∙ sym (next_past _ _ _ (rw length-drop (omega arith)) (rw word-drop (omega arith))
    (rw (length-drop, word-drop) (omega arith)))

pub returns : goal.returns
returns c =
    rw (c.from-size.ensures, c.word.ensures, ← word-drop) (sym (next_whole _ _ _ (rw length-drop (omega arith)) (rw word-drop (omega arith))
    (rw (length-drop, word-drop) (omega arith))))
