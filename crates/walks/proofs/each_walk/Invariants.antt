use Rattle.std.proofs.Common.{◌≡◌, [], ◌∷◌}
use Rattle.runs.specs.Flagged.{flagged}
use Rattle.walks.specs.Each.{each}
use Rattle.walks.proofs.Rests.{left}
use Rattle.walks.proofs.Turns.{Stands}
use Rattle.walks.proofs.each_walk.Given as goal

-- where the walk stands in the family, of which it has tried each member so far
abbrev pub invariant-loop-alpha : goal.invariant-loop-alpha
invariant-loop-alpha g l =
    let at = g.F.Family.at l.family in
    record {
      stands : Stands (flagged l.flags) (each at (g.F.Family.total l.family)) 0 (left (λ α. at α ∷ []) l.count l.alpha []) l.alpha;
      counted : l.tried ≡ l.alpha;
    }
