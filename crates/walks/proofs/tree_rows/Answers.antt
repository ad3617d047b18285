-- A row whose block is not free is counted, another is walked, and all are closed where a look finds that they are.
use Rattle.std.proofs.Common.{◌≡◌, ℕ, suc, ◌+◌, ◌-◌, ◌^◌, ◌<◌, ◌≤◌, Bool, [], ◌∷◌, length, refl, sym, ap, ◌∙◌, add-one, arith}
use Rattle.hypercube.specs.Subcubes.{is_free}
use Rattle.hypercube.specs.Families.{places, tree, first_free}
use Rattle.hypercube.specs.declared.Walk.TheVariants.{NoneFree}
use Rattle.planes.specs.Rows.{NoMember}
use Rattle.walks.specs.Blocks.{Row}
use Rattle.walks.proofs.Blocks.{block_room, member_tested, member_room, other_row, length-places, row_misses}
use Rattle.walks.proofs.Closed.{tree_closed}
use Rattle.walks.proofs.Rests.{left_next, left_done, left_whole, digit-zero, digit_one}
use Rattle.walks.proofs.Trees.{tree_few}
use Rattle.walks.proofs.Turns.{stays, counts, misses, hits, ends, one_fails, one_passes}
use Rattle.walks.proofs.tree_rows.Goals as goal
use Rattle.walks.proofs.tree_rows.Goals.{else-walk-test}
use Rattle.walks.proofs.tree_rows.Goals.{then-walk-test+else-none_at+then-block_free+else-none_at-2+then-loop-p-test+then-digit-eq0+then-block_free-2}
use Rattle.walks.proofs.tree_rows.Goals.{then-digit-eq0+else-block_free-2, else-digit-eq0}
use Rattle.walks.proofs.tree_rows.Goals.{then-block_free+else-none_at-2+else-loop-p-test, else-block_free}

module _ (n low : ℕ) (h : (low < n) × (n ≤ 10)) where
  few : length (tree n (suc low)) ≤ 11264
  few = omega (arith, tree_few n (suc low) (λ z. absurd (omega arith)) (omega arith) (omega arith))

  closed : (f : ℕ → Bool) {t : ℕ} → t ≡ length (tree n (low + 1)) → NoMember f n 0 low 0
      → NoneFree t ≡ first_free (is_free f) (tree n (suc low)) 0
  closed f e N = ap NoneFree (e ∙ ap (λ (k : ℕ). length (tree n k)) (add-one low)) ∙ sym (tree_closed f n low h.0 N)

  row : {end α : ℕ} → end ≡ 2 ^ (n - low) → α < end → Row n 0 low (n - low) α
  row e v = record { narrow = h.1; sum = omega arith; value = rw e at v }

pub returns-then-none_at : goal.returns-then-none_at
returns-then-none_at c = closed _ _ c.requires _ c.tree_count.ensures (c.none_at.ensures c.if-none_at.true)

pub block_free-requires-clause-testable : goal.block_free-requires-clause-testable
block_free-requires-clause-testable c = block_room (row _ _ c.requires c.pow2-end.ensures c.walk-test.true)

pub returns-then-none_at-2 : goal.returns-then-none_at-2
returns-then-none_at-2 c = closed _ _ c.requires _ c.tree_count-then-none_at-2.ensures (c.none_at-then-block_free.ensures c.if-none_at-2.true)

pub loop-p-init : goal.loop-p-init
loop-p-init c = record {
  stands = stays c.walk.invariant.stands (left_next _ _ _ _ c.walk-test.true ∙ left_whole _ _ _);
  not_yet = c.walk.invariant.not_yet;
}

pub overflow_add-tried : goal.overflow_add-tried
overflow_add-tried c =
    omega (
      arith,
      counts c.loop-p.invariant.stands (_ ∷ []) _ (digit-zero _ _ _ _ _ c.loop-p-test.true (sym c.digit.ensures ∙ c.if-digit-eq0.true)),
      few _ _ c.requires,
    )

pub block_free-requires-then-digit-eq0-clause-testable : goal.block_free-requires-then-digit-eq0-clause-testable
block_free-requires-then-digit-eq0-clause-testable c =
    rw c.pow2.ensures (block_room (other_row (row _ _ c.requires c.pow2-end.ensures c.walk-test.true) c.loop-p-test.true
    (sym c.digit.ensures ∙ c.if-digit-eq0.true)))

pub tree_member-requires-clause-inside : goal.tree_member-requires-clause-inside
tree_member-requires-clause-inside c =
    (member_room (row _ _ c.requires c.pow2-end.ensures c.walk-test.true) c.loop-p-test.true (sym c.digit.ensures ∙ c.if-digit-eq0.true)).0

pub loop-p-preserved : goal.loop-p-preserved
loop-p-preserved c =
    elim c.if-digit-eq0.branch [
      | then-digit-eq0+else-block_free-2 w ↦
          rw w.tried-is
          (record {
            stands =
                misses c.loop-p.invariant.stands _ _ (digit-zero _ _ _ _ _ c.loop-p-test.true (sym c.digit.ensures ∙ w.if-digit-eq0.true))
                (one_fails _ refl _
                (member_tested (row _ _ c.requires c.pow2-end.ensures c.walk-test.true) _ _ c.loop-p-test.true
                (sym c.block_free.ensures ∙ c.if-block_free.true)
                (sym (rw w.pow2.ensures at w.block_free-then-digit-eq0.ensures) ∙ w.if-block_free-2.false)));
            not_yet = c.loop-p.invariant.not_yet;
          })
      | else-digit-eq0 w ↦
          rw w.tried-is
          (record {
            stands = stays c.loop-p.invariant.stands (digit_one _ _ _ _ _ c.loop-p-test.true (λ z. w.if-digit-eq0.false (c.digit.ensures ∙ z)));
            not_yet = c.loop-p.invariant.not_yet;
          })
    ]

pub overflow_add-tried-else-block_free : goal.overflow_add-tried-else-block_free
overflow_add-tried-else-block_free c =
    omega (
      arith,
      counts c.walk.invariant.stands (places c.args.n 0 c.args.low c.walk.alpha (c.args.n - c.args.low) 0) _
          (left_next _ _ _ _ c.walk-test.true),
      length-places c.args.n 0 c.args.low c.walk.alpha (c.args.n - c.args.low) 0,
      few _ _ c.requires,
    )

pub walk-preserved : goal.walk-preserved
walk-preserved c =
    elim c.if-block_free.branch [
      | then-block_free+else-none_at-2+else-loop-p-test w ↦
          rw (w.found-is, w.tried-is, w.seen-is)
          (record {
            stands = stays w.loop-p.invariant.stands (left_done _ _ _ _ w.loop-p-test.false);
            seen_le = omega arith;
            not_yet = w.loop-p.invariant.not_yet;
          })
      | else-block_free w ↦
          rw (w.found-is, w.tried-is, w.seen-is)
          (record {
            stands =
                misses c.walk.invariant.stands _ _ (left_next _ _ _ _ c.walk-test.true)
                (row_misses _ _ (omega arith) (row _ _ c.requires c.pow2-end.ensures c.walk-test.true) _ _ w.zero_digits-tried.ensures
                (sym c.block_free.ensures ∙ w.if-block_free.false));
            seen_le = omega arith;
            not_yet = c.walk.invariant.not_yet;
          })
    ]

pub returns-in-Some : goal.returns-in-Some
returns-in-Some c =
    elim c.walk-test.branch [
      | else-walk-test w ↦ let n = c.walk.invariant.not_yet in cc
      | then-walk-test+else-none_at+then-block_free+else-none_at-2+then-loop-p-test+then-digit-eq0+then-block_free-2 w ↦
          let e : c.in-Some.member ≡ w.tree_member.result = cc in
          rw (e, w.tried-is)
          (hits w.loop-p.invariant.stands _ _ (digit-zero _ _ _ _ _ w.loop-p-test.true (sym w.digit.ensures ∙ w.if-digit-eq0.true))
          (one_passes _ w.tree_member.ensures _
          (ap (is_free _) w.tree_member.ensures
          ∙ member_tested (row _ _ c.requires c.pow2-end.ensures w.walk-test.true) _ _ w.loop-p-test.true
          (sym w.block_free.ensures ∙ w.if-block_free.true)
          (sym (rw w.pow2.ensures at w.block_free-then-digit-eq0.ensures) ∙ w.if-block_free-2.true))))
    ]

pub returns-in-None : goal.returns-in-None
returns-in-None c =
    elim c.walk-test.branch [
      | else-walk-test w ↦ rw w.tried-is (ends c.walk.invariant.stands (left_done _ _ _ _ w.walk-test.false))
      | then-walk-test+else-none_at+then-block_free+else-none_at-2+then-loop-p-test+then-digit-eq0+then-block_free-2 w ↦ cc
    ]
