use Rattle.std.proofs.Common.{◌≡◌, arith, ℕ, subst}
use Rattle.planes.specs.Planes.{PackedFrom}
use Rattle.planes.proofs.Packing.{packed_none, packed_folded}
use Rattle.planes.proofs.pack.Goals as goal

pub loop-j-init : goal.loop-j-init
loop-j-init c = packed_none c.args.flags.now

pub returns : goal.returns
returns c =
    let l = c.loop-j in
    let fs = c.args.flags.now in
    let e : l.j ≡ 0 = omega arith in
    packed_folded fs l.bytes (subst (λ (j : ℕ). PackedFrom fs j l.bytes) e l.invariant)
