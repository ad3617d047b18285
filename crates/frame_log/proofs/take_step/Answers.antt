-- By what the input has next.
use Rattle.frame_log.proofs.Stepping.{within, step_full, step_by_lem, step_frame}
use Rattle.frame_log.proofs.take_step.Goals as goal

pub returns-then-lines-eq4294967295 : goal.returns-then-lines-eq4294967295
returns-then-lines-eq4294967295 c = step_full _ _ _ _ _ c.if-lines-eq4294967295.true

pub slice_bounds-on_frame-count : goal.slice_bounds-on_frame-count
slice_bounds-on_frame-count c = (within _ _ _ _ _ c.next_frame-ahead.ensures c.in-Frame.is).0

pub slice_bounds-on_frame-start : goal.slice_bounds-on_frame-start
slice_bounds-on_frame-start c = (within _ _ _ _ _ c.next_frame-ahead.ensures c.in-Frame.is).0

pub slice_bounds-on_frame-end : goal.slice_bounds-on_frame-end
slice_bounds-on_frame-end c = (within _ _ _ _ _ c.next_frame-ahead.ensures c.in-Frame.is).1

pub returns-in-Frame : goal.returns-in-Frame
returns-in-Frame c = step_frame _ _ _ _ _ c.if-lines-eq4294967295.false _ _ c.next_frame-ahead.ensures c.in-Frame.is _ _ c.on_frame.ensures

pub returns-in-More : goal.returns-in-More
returns-in-More c =
    step_by_lem _ _ _ _ _ c.if-lines-eq4294967295.false _ c.next_frame-ahead.ensures _ _ (rw c.in-More.is) (rw c.in-More.is)

pub returns-in-End : goal.returns-in-End
returns-in-End c =
    step_by_lem _ _ _ _ _ c.if-lines-eq4294967295.false _ c.next_frame-ahead.ensures _ _ (rw c.in-End.is) (rw c.in-End.is)

pub returns-in-Broken : goal.returns-in-Broken
returns-in-Broken c =
    step_by_lem _ _ _ _ _ c.if-lines-eq4294967295.false _ c.next_frame-ahead.ensures _ _ (rw (c.in-Broken.is, c.refused.ensures)) (rw c.in-Broken.is)
