-- The map, the holders and the star bits, read from a record that is one. Assumes nothing.
use Prim.Native.Nat.{ℕ, ◌<◌, ◌≤◌}
use mathlib.Core.Path.{◌≡◌}
use mathlib.Core.Bool.{true}
use mathlib.Core.List.{List}
use lib.ListN.{get_or}
use Rattle.labels.specs.Directions.{Directions}
use Rattle.labels.specs.Flags.{EmptyFrom}
use Rattle.labels.proofs.Directions.{directions}
use Rattle.state.specs.Checks.{node_count}
use Rattle.record.specs.Layout.{decode, valid_record}
use Rattle.record.proofs.Round.{sized-decode}
use Rattle.steps.proofs.Ways.{state_valid}

module _ (r : List ℕ) (v : valid_record r ≡ true) where
  -- the holders and the star bits of its N nodes are all there are
  pub none_beyond : {N : ℕ} → N ≡ node_count (decode r) → N ≤ 1024 → EmptyFrom (decode r).holders N × EmptyFrom (decode r).stars N
  none_beyond {N} e few =
      let facts = state_valid r v in
      let unheld : (x : ℕ) → N ≤ x → x < 1024 → get_or (decode r).holders x 0 ≡ 0 = λ x g l. facts.no_holders x (rw (← e) g) l in (
        record { entries = (sized-decode r).holders; within = few; empty = unheld },
        record { entries = (sized-decode r).stars; within = few; empty = λ x g l. facts.unstarred x l (unheld x g l) },
      )

  -- its map, read, is one of directions
  pub map_directions : {ds : List ℕ} → ds ≡ (decode r).map → Directions ds
  map_directions e = rw e (directions (decode r).n (decode r).map (state_valid r v).small (state_valid r v).permutes)
