use Rattle.std.proofs.Common.{◌≡◌, arith}
use Rattle.planes.proofs.Packing.{packed_all}
use Rattle.planes.proofs.add_plane.Goals as goal

pub returns : goal.returns
returns c =
    let a = c.args in
    let l = c.loop-e in
    let e : l.e ≡ 128 = omega arith in
    packed_all a.flags.now a.bytes.now l.bytes a.j c.requires.0 c.requires.1 (rw e at l.invariant)
