use Rattle.std.proofs.Common.{arith}
use lib.Pow.{pow_mono}
use Rattle.hypercube.proofs.Next.{next_below}
use Rattle.loads.proofs.is_whole.Goals as goal

pub is_like-requires : goal.is_like-requires
is_like-requires c =
    let p = c.requires in
    (p.0, rw c.next.ensures (next_below 10 _ _ p.1.1 (omega (arith, c.pow2.ensures, pow_mono {j = 10} p.1.0))))
