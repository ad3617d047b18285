use Rattle.std.proofs.Common.{rules}
use Rattle.record.proofs.Round.{encode-decode, sized-decode}
use Rattle.nodes.proofs.InPlace.{set_map_lem}
use Rattle.nodes.proofs.set_map.Goals as goal

pub returns : goal.returns
returns c =
    let b = c.args.bytes.now in
    let e = encode-decode b c.requires.bytes_len.0 (λ i. search rules) c.requires.bytes_len.1 in
    rw c.copy_from_slice.ensures.after (rw e at (set_map_lem _ (sized-decode b) c.args.map.now))
