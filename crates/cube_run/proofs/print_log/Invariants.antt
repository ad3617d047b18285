use Rattle.cube_run.proofs.Turning.{Going}
use Rattle.cube_run.proofs.print_log.Given as goal

-- each turn was a turn of a run, of what was read and written since the call
abbrev pub invariant-loop : goal.invariant-loop
invariant-loop g l =
    Going l.fn.rec l.fn.window l.fn.out (g.I.Read.remaining l.fn.input) (g.I.Read.remaining l.input)
    (g.O.Write.contents l.fn.output) (g.O.Write.contents l.output) l.s l.rec l.window l.out l.counter
