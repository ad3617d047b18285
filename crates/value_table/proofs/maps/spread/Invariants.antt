use Rattle.std.proofs.Common.{◌<◌}
use Rattle.labels.specs.Directions.{Directions}
use Rattle.value_table.proofs.maps.spread.Given as goal

-- the direction that is next is one of the first n, and the map is one of directions
abbrev pub invariant-loop-i : goal.invariant-loop-i
invariant-loop-i l = (l.new < l.n) × Directions l.map
