use Rattle.std.proofs.Common.{arith}
use Rattle.labels.proofs.Directions.{label_from, label_past, label_small}
use Rattle.labels.proofs.label_of.Goals as goal

pub overflow_add-done : goal.overflow_add-done
overflow_add-done c =
    let l = c.loop-d in
    let step = label_from c.args.map.now l.d-index l.rest (omega (arith, c.requires.entries)) in
    omega (arith, step, c.moved-done.ensures, label_small c.args.x.0 c.requires)

pub loop-d-preserved : goal.loop-d-preserved
loop-d-preserved c =
    let l = c.loop-d in
    let step = label_from c.args.map.now l.d-index l.rest (omega (arith, c.requires.entries)) in
    omega (arith, step, c.moved-done.ensures)

pub returns : goal.returns
returns c = omega (arith, label_past c.args.map.now c.loop-d.d-index c.loop-d.rest (omega (arith, c.requires.entries)))
