-- A row that may have none is counted, another is walked.
use Rattle.std.proofs.Common.{◌≡◌, ℕ, ◌+◌, ◌-◌, ◌^◌, ◌<◌, ◌≤◌, Bool, suc, true, false, ◌&&◌, eqb, length, refl, sym, ap, ◌∙◌, ⊎_elim, arith}
use borrow.Author.Tests.{eqb-false}
use Rattle.hypercube.specs.Bits.{bit}
use Rattle.hypercube.specs.Subcubes.{is_free}
use Rattle.hypercube.specs.Families.{further, first_free}
use Rattle.hypercube.specs.declared.Walk.TheVariants.{NoneFree}
use Rattle.hypercube.proofs.Bits.{bit_cases}
use Rattle.walks.specs.Blocks.{tree_block, zero_digits, Row}
use Rattle.walks.specs.Open.{Closed}
use Rattle.walks.proofs.Blocks.{length-places, row_none, row_misses}
use Rattle.walks.proofs.Closed.{further_closed}
use Rattle.walks.proofs.Rests.{left_next, left_done}
use Rattle.walks.proofs.Turns.{counts, misses, hits, ends}
use Rattle.walks.proofs.further_walk.Goals as goal
use Rattle.walks.proofs.further_walk.Goals.{then-may_have+in-NoneFree, else-may_have}

-- a row of n - low - 1 places from 1 on, z what the code counted of them
module _ (n low α d z : ℕ) (e : z ≡ zero_digits α (n - low - 1) 1) where
  digits : z ≡ zero_digits α (n - suc low) 1
  digits = e ∙ ap (λ (m : ℕ). zero_digits α m 1) (omega arith)

  length_row : length (further n low α d) ≡ z
  length_row = length-places n d (low - d) α (n - suc low) 1 ∙ sym digits

  -- where it has none
  module _ (h : (low < n) × (n ≤ 10) × (α < 2 ^ (n - low))) (a : 1 ≤ d) (b : d < low + 1) (f : ℕ → Bool) (t : ℕ) where
    row_at : Row n d (low - d) (n - low) α
    row_at = record { narrow = h.1; sum = omega arith; value = h.2 }

    walked : {v : ℕ} → first_free (is_free f) (further n low α d) t ≡ NoneFree v → first_free (is_free f) (further n low α d) t ≡ NoneFree (t + z)
    walked q = row_none (n - suc low) 1 (omega arith) row_at f t digits q

    -- the mask lacks d, or the block is not free
    none : (mask : ℕ) → Closed f n low mask → (on : Bool) → eqb (bit mask d) 1 ≡ on → on && is_free f (tree_block n d (low - d) α) ≡ false
        → first_free (is_free f) (further n low α d) t ≡ NoneFree (t + z)
    none mask C true o r = row_misses (n - suc low) 1 (omega arith) row_at f t digits r
    none mask C false o r =
        let off : bit mask d ≡ 0 = ⊎_elim (λ z. z) (λ i. absurd (eqb-false _ 1 o i)) (bit_cases mask d) in
        further_closed f n low α d t a (omega arith) h.0 h.2 (C d a (omega arith) off) ∙ ap NoneFree (omega (arith, length_row))

pub row_walk-row-requires-clause-d_bound : goal.row_walk-row-requires-clause-d_bound
row_walk-row-requires-clause-d_bound c =
    omega (
      arith,
      counts c.loop-d.invariant (further c.args.n c.args.low c.args.alpha c.loop-d.d) _ (left_next _ _ _ _ c.loop-d-test.true),
      c.requires.low_bound,
    )

pub returns-in_default : goal.returns-in_default
returns-in_default c =
    c.in_default.is
    ∙ hits c.loop-d.invariant _ _ (left_next _ _ _ _ c.loop-d-test.true) (sym c.row_walk-row.ensures ∙ c.in_default.is)

pub overflow_add-tried : goal.overflow_add-tried
overflow_add-tried c =
    omega (
      arith,
      counts c.loop-d.invariant (further c.args.n c.args.low c.args.alpha c.loop-d.d) _ (left_next _ _ _ _ c.loop-d-test.true),
      length_row _ _ _ c.loop-d.d _ c.zero_digits-zeros.ensures,
      c.requires.low_bound,
    )

pub loop-d-preserved : goal.loop-d-preserved
loop-d-preserved c =
    misses c.loop-d.invariant _ _ (left_next _ _ _ _ c.loop-d-test.true)
    (elim c.if-may_have.branch [
      | then-may_have+in-NoneFree w ↦
          walked _ _ _ _ _ c.zero_digits-zeros.ensures c.requires.low_lt_n c.loop-d.auto.d c.loop-d-test.true _ _
          (sym w.row_walk-row.ensures ∙ w.in-NoneFree.is)
      | else-may_have w ↦
          none _ _ _ _ _ c.zero_digits-zeros.ensures c.requires.low_lt_n c.loop-d.auto.d c.loop-d-test.true _ _ _ c.requires.closed _ refl
          (sym c.may_have.ensures ∙ w.if-may_have.false)
    ])

pub returns : goal.returns
returns c = ends c.loop-d.invariant (left_done _ _ _ _ c.loop-d-test.false)
