-- The free test may ask of each member.
use Rattle.walks.proofs.Each.{buddy_room}
use Rattle.walks.proofs.buddy_walk.Goals as goal

pub each_walk-requires : goal.each_walk-requires
each_walk-requires c = record { testable = λ α v. buddy_room c.args.n c.args.k α c.requires v }
