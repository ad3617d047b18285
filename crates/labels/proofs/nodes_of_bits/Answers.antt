use Rattle.std.proofs.Common.{◌≡◌, ◌^◌, ◌%◌, ◌*◌, ◌-◌, ◌≤◌, arith}
use lib.Pow.{pow_mono}
use Rattle.labels.proofs.BitNodes.{bit_small, bits_next, bits_all}
use Rattle.labels.proofs.nodes_of_bits.Goals as goal

pub overflow_add-nodes : goal.overflow_add-nodes
overflow_add-nodes c =
    let half : 2 ^ c.loop-place.place ≤ 2 ^ 9 = pow_mono {i = c.loop-place.place} {j = 9} (omega arith) in
    let within = c.requires.within c.loop-place.place (omega arith) in
    omega (arith, half, bit_small c.requires c.loop-place.invariant (c.from.result - 1) (omega (arith, within.0, within.1, c.from.ensures)))

pub loop-place-preserved : goal.loop-place-preserved
loop-place-preserved c =
    let half : 2 ^ c.loop-place.place ≤ 2 ^ 9 = pow_mono {i = c.loop-place.place} {j = 9} (omega arith) in
    let bit : 1 * 2 ^ c.loop-place.place % 65536 ≡ 2 ^ c.loop-place.place = omega arith in
    rw (bit, c.from.ensures) (bits_next c.requires c.loop-place.invariant (omega arith))

pub returns : goal.returns
returns c =
    let e : c.loop-place.place ≡ 10 = omega arith in
    bits_all c.requires (rw e at c.loop-place.invariant)
