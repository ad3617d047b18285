use Rattle.std.proofs.Common.{◌≡◌, ◌+◌, arith, get_or}
use lib.Pow.{pow_mono}
use Rattle.labels.specs.Flags.{numbered}
use Rattle.labels.proofs.BitNodes.{bit-node}
use Rattle.labels.proofs.Doubling.{nodes_one, nodes_all, Turn, place_below, next_below, nodes_more}
use Rattle.labels.proofs.nodes_from.Goals as goal

pub loop-j-init : goal.loop-j-init
loop-j-init c = nodes_one c.args.map.now c.args.first

-- a turn of the inner loop
turn : (c : goal.In-loop-l)
    → Turn c.args.map.now c.args.first c.loop-j.j c.from-size.result
    (get_or c.nodes_of_bits-bits.result (c.args.first + c.from.result) (numbered 0)).0
    c.loop-l.l c.loop-l.nodes
turn c = record {
  directions = c.requires.1;
  below = c.loop-j-test.true;
  power = omega (arith, c.pow2.ensures, c.from-size.ensures);
  alone = rw (c.nodes_of_bits-bits.ensures, c.from.ensures) (bit-node c.args.map.now (c.args.first + c.loop-j.j) (omega arith));
  inside = c.loop-l-test.true;
  so_far = c.loop-l.invariant;
}

pub bounds-nodes-l : goal.bounds-nodes-l
bounds-nodes-l c = omega (arith, c.pow2.ensures, c.from-size.ensures, pow_mono {i = c.loop-j.j} {j = 4} (omega arith))

pub overflow_add-nodes : goal.overflow_add-nodes
overflow_add-nodes c = omega (arith, next_below (turn c))

pub bounds-nodes-size : goal.bounds-nodes-size
bounds-nodes-size c = place_below (turn c)

pub loop-l-preserved : goal.loop-l-preserved
loop-l-preserved c = nodes_more (turn c)

pub returns : goal.returns
returns c =
    let e : c.loop-j.j ≡ 5 = omega arith in
    nodes_all c.args.map.now c.args.first (rw e at c.loop-j.invariant)
