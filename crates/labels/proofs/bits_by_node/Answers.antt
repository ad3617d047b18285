use Rattle.std.proofs.Common.{◌<◌, ◌≤◌, List, ℕ, arith, refl, length, reverse}
use Rattle.std.proofs.lemmas.List.{length-reverse, reverse-append}
use Rattle.std.proofs.lemmas.Grind.{common_steps}
use lib.Pow.{pow_mono}
use Rattle.hypercube.proofs.Labels.{node_lt_of}
use Rattle.hypercube.specs.Labels.{node}
use Rattle.labels.proofs.bits_by_node.Goals as goal

small : (ds : List ℕ) (bits : ℕ) → length ds ≤ 10 → node (reverse ds) bits < 1024
small ds bits h = omega (arith, node_lt_of (reverse ds) bits, pow_mono {i = length (reverse ds)} {j = 10} (omega (arith, length-reverse ds)))

pub loop-d-init : goal.loop-d-init
unfolding node
loop-d-init c = record { next = tt; finite = tt; so_far = refl; ten = grind (arith, common_steps) }

pub overflow_mul-done : goal.overflow_mul-done
overflow_mul-done c = omega (arith, small c.loop-d.yielded c.args.bits (omega arith))

pub overflow_add-done : goal.overflow_add-done
overflow_add-done c = omega (arith, small c.loop-d.yielded c.args.bits (omega arith), c.bit_in.ensures)

pub loop-d-preserved : goal.loop-d-preserved
unfolding node
loop-d-preserved c = record {
  next = tt;
  finite = tt;
  so_far = rw (reverse-append c.loop-d.yielded) (omega (arith, c.bit_in.ensures));
  ten = grind (arith, common_steps, c.in-Some.ensures.steps);
}
