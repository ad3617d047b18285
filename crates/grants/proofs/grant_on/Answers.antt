-- 'None free', or the grant of the first free member.
use Rattle.std.proofs.Common.{refl, sym, ◌∙◌, arith}
use Rattle.hypercube.specs.declared.Reply.TheVariants.{Refused}
use Rattle.state.proofs.Steps.{grant_14, grant_found}
use Rattle.steps.proofs.Ways.{state_valid, whole, told_only, accepts}
use Rattle.grants.proofs.Read.{map_directions}
use Rattle.grants.proofs.Grants.{lowest_of}
use Rattle.grants.proofs.Lost.{lost-whole, lost-taken}
use Rattle.record.proofs.Round.{sized-decode}
use Rattle.grants.proofs.grant_on.Goals as goal

pub load_map-map-requires : goal.load_map-map-requires
load_map-map-requires c = (whole _ c.requires.0.right).0

pub walk_of-walk-requires : goal.walk_of-walk-requires
walk_of-walk-requires c = (c.requires.0.right, (c.load_map-map.ensures, c.requires.1))

pub returns-in_default : goal.returns-in_default
returns-in_default c =
    rw c.reply.ensures
    (told_only _ _ (Refused 14 _) (λ z. absurd (omega arith))
    (grant_14 _ _ _ _ c.walk_of-walk.ensures _ c.in_default.is _ c.tried_in.ensures))

pub node_of-low-requires : goal.node_of-low-requires
node_of-low-requires c = map_directions _ c.requires.0.right c.load_map-map.ensures

pub stars_of-stars-requires : goal.stars_of-stars-requires
stars_of-stars-requires c = map_directions _ c.requires.0.right c.load_map-map.ensures

pub give-requires : goal.give-requires
give-requires c = record {
  bytes_len = lost-whole _ (sized-decode _) _ c.lose.ensures;
  lowest_of =
      lowest_of _ (state_valid _ c.requires.0.right) c.args.job c.args.k c.args.strategy c.requires.1 _ _ (sym c.walk_of-walk.ensures ∙ c.in-Found.is)
      c.load_map-map.ensures c.node_of-low.ensures c.stars_of-stars.ensures;
}

pub returns : goal.returns
returns c =
    accepts _ _ _ refl
    (grant_found _ _ _ _ c.walk_of-walk.ensures _ _ c.in-Found.is c.load_map-map.ensures _ c.node_of-low.ensures _ c.stars_of-stars.ensures)
    (lost-taken _ (sized-decode _) _ c.lose.ensures _ _ c.give.ensures)
