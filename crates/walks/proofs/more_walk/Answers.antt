-- The rows of each α are walked with the d that may have a free member.
use Rattle.std.proofs.Common.{◌≡◌, ℕ, ◌+◌, List, [], ◌∷◌, length, refl, sym, ap, ◌∙◌, arith}
use Rattle.hypercube.specs.Lists.{over}
use Rattle.hypercube.specs.Families.{further, more}
use Rattle.hypercube.specs.declared.Subcube.{Subcube}
use Rattle.hypercube.specs.declared.Walk.TheVariants.{NoneFree}
use Rattle.runs.specs.Flagged.{flagged}
use Rattle.walks.specs.Open.{Closed}
use Rattle.walks.proofs.Closed.{more_closed, levels_closed}
use Rattle.walks.proofs.Rests.{left_start, left_next, left_done}
use Rattle.walks.proofs.Turns.{starts, counts, misses, hits, ends}
use Rattle.walks.proofs.more_walk.Goals as goal
use Rattle.walks.proofs.more_walk.Goals.{then-alpha-eq-MANY, else-alpha-eq-MANY}

-- a list of no members
nil : (l : List Subcube) → length l ≡ 0 → l ≡ []
nil [] e = refl
nil (x ∷ l) e = absurd (omega arith)

pub returns-then-count-eq0 : goal.returns-then-count-eq0
returns-then-count-eq0 c =
    let a = c.args in
    ap NoneFree (omega arith)
    ∙ ends (starts (flagged a.flags.now) a.before refl) (nil (more a.n a.low) (sym c.more_count-count.ensures ∙ c.if-count-eq0.true))

pub loop-alpha-init : goal.loop-alpha-init
loop-alpha-init c = record {
  stands = starts _ _ (left_start _ _ 0 (omega arith));
  leveled = c.fill_levels-mask.ensures.level;
  closed = levels_closed _ _ _ _ (omega arith) (omega arith) c.fill_levels-mask.ensures;
}

pub returns-then-mask-eq0 : goal.returns-then-mask-eq0
returns-then-mask-eq0 c =
    let a = c.args in
    let now : Closed (flagged a.flags.now) a.n a.low c.if-alpha-eq-MANY.mask =
    elim c.if-alpha-eq-MANY.branch [
      | then-alpha-eq-MANY w ↦ rw w.mask-is w.looked-mask.ensures.1
      | else-alpha-eq-MANY w ↦ rw w.mask-is c.loop-alpha.invariant.closed
    ] in
    ap (λ (x : ℕ). NoneFree (a.before + x)) c.more_count-count.ensures
    ∙ sym (more_closed (flagged a.flags.now) a.n a.low a.before c.requires.low_lt_n.0 (rw c.if-mask-eq0.true at now))

pub further_walk-rows-requires-clause-low_bound : goal.further_walk-rows-requires-clause-low_bound
further_walk-rows-requires-clause-low_bound c =
    omega (
      arith,
      counts c.loop-alpha.invariant.stands (over (further c.args.n c.args.low c.loop-alpha.alpha) c.args.low 1) _
          (left_next _ _ _ _ (rw c.pow2-alpha-end.ensures at c.loop-alpha-test.true)),
      c.requires.low_bound,
    )

pub returns-in_default : goal.returns-in_default
returns-in_default c =
    c.in_default.is
    ∙ hits c.loop-alpha.invariant.stands _ _ (left_next _ _ _ _ (rw c.pow2-alpha-end.ensures at c.loop-alpha-test.true))
    (sym c.further_walk-rows.ensures ∙ c.in_default.is)

pub loop-alpha-preserved : goal.loop-alpha-preserved
loop-alpha-preserved c = record {
  stands =
      misses c.loop-alpha.invariant.stands _ _ (left_next _ _ _ _ (rw c.pow2-alpha-end.ensures at c.loop-alpha-test.true))
      (sym c.further_walk-rows.ensures ∙ c.in-NoneFree.is);
  leveled =
      elim c.if-alpha-eq-MANY.branch [
        | then-alpha-eq-MANY w ↦ rw w.mask-is (λ d a b o. c.loop-alpha.invariant.leveled d a b (w.looked-mask.ensures.0 d o))
        | else-alpha-eq-MANY w ↦ rw w.mask-is c.loop-alpha.invariant.leveled
      ];
  closed =
      elim c.if-alpha-eq-MANY.branch [
        | then-alpha-eq-MANY w ↦ rw w.mask-is w.looked-mask.ensures.1
        | else-alpha-eq-MANY w ↦ rw w.mask-is c.loop-alpha.invariant.closed
      ];
}

pub returns : goal.returns
returns c = ends c.loop-alpha.invariant.stands (left_done _ _ _ _ (rw c.pow2-alpha-end.ensures at c.loop-alpha-test.false))
