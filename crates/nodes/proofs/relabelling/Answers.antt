use Rattle.std.proofs.Common.{List, ℕ, ◌≡◌, ◌+◌, length, get_or, arith, ◌∙◌}
use Rattle.hypercube.proofs.Lists.{is_each}
use Rattle.labels.specs.Relabelling.{relabelling}
use Rattle.record.specs.Layout.{record_size, conditions_at, stars_at, decode}
use Rattle.record.proofs.Maximum.{part, length_part, part_at}
use Rattle.nodes.proofs.relabelling.Goals as goal

-- the part that has the conditions
module _ (r : List ℕ) (long : length r ≡ record_size) where
  entries : length (part r conditions_at stars_at) ≡ 1024
  entries = length_part r conditions_at stars_at (omega arith)

  conditions : part r conditions_at stars_at ≡ (decode r).conditions
  unfolding decode
  conditions = is_each (λ x. get_or r (conditions_at + x) 0) 1024 (part r conditions_at stars_at) entries
      (part_at r conditions_at stars_at (omega arith))

  relabelled : {n : ℕ} → n ≡ (decode r).n → relabelling n (part r conditions_at stars_at) ≡ relabelling (decode r).n (decode r).conditions
  relabelled e = rw (e, conditions)

pub returns : goal.returns
returns c = c.relabel.ensures ∙ relabelled _ c.requires.0 (c.from.ensures ∙ c.dimension-n.ensures)
