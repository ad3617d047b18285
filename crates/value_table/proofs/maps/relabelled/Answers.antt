use Rattle.std.proofs.Common.{◌≡◌, ℕ, ◌≤◌, List}
use Rattle.hypercube.specs.Labels.{relabelled}
use Rattle.hypercube.proofs.Relabels.{relabel_permutes}
use Rattle.labels.specs.Directions.{Directions}
use Rattle.labels.specs.Relabelling.{not_good, relabelling}
use Rattle.labels.specs.declared.Relabelled.{Relabelled}
use Rattle.labels.proofs.Directions.{directions}
use Rattle.value_table.proofs.maps.relabelled.Goals as goal

of_relabelling : (n : ℕ) (cs : List ℕ) (r : Relabelled) → n ≤ 10 → r ≡ relabelling n cs → Directions r.map
of_relabelling n cs r h e = rw e (directions n (relabelled n (not_good cs)) h (relabel_permutes n h (not_good cs)))

-- every relabelling gives directions
pub returns : goal.returns
returns c = of_relabelling c.args.n _ _ c.requires c.relabel-new.ensures
