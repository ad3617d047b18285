use Rattle.std.proofs.Common.{rules}
use Rattle.record.proofs.Round.{encode-decode, sized-decode}
use Rattle.nodes.proofs.InPlace.{set_condition_entry}
use Rattle.nodes.proofs.set_condition.Goals as goal

pub returns : goal.returns
returns c =
    let e = encode-decode c.args.bytes.now c.requires.0 (λ i. search rules) c.requires.1.1 in
    rw (c.from-at.ensures) (rw e at (set_condition_entry _ (sized-decode c.args.bytes.now) _ c.args.condition c.requires.1.0))
