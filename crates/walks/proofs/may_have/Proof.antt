-- `walks::may_have` meets its contract. Assumes nothing.
use Prim.Native.Nat.{◌-◌, ◌*◌, ◌^◌, ◌<◌}
use mathlib.Core.Path.{◌≡◌, sym, ap, ◌∙◌}
use mathlib.Core.Bool.{Bool, false, ◌&&◌, and-false}
use native.Mathlib.Omega.{arith}
use borrow.Author.Rules.{rules}
use borrow.Author.Tests.{eq-eqb, ne_eqb, not-true}
use lib.Dec.{eqb}
use lib.Pow.{pow_pos, pow_mono}
use Rattle.hypercube.specs.Bits.{width, bit}
use Rattle.hypercube.proofs.Halves.{lowest_first}
use Rattle.runs.specs.Flagged.{flagged}
use Rattle.runs.proofs.Levels.{in_level, block_run}
use Rattle.walks.proofs.may_have.Statement.{statement}
use Rattle.walks.proofs.may_have.Tie as tie

sub_l : tie.Need-overflow_sub-l
sub_l c = search rules

pow2_requires : tie.Need-pow2-requires
pow2_requires c κs = search rules

-- α has the digits between the stars
digits : (c : tie.Start) → c.args.alpha < 2 ^ (c.args.n - (c.args.low - c.args.d) - c.args.d)
digits c =
    let a = c.args in
    let e : a.n - (a.low - a.d) - a.d ≡ a.n - a.low = omega arith in
    rw e c.requires.0.4

lowest : (c : tie.After-pow2) → c.args.alpha * c.pow2.result < 1024
lowest c =
    let a = c.args in
    rw c.pow2.ensures
    (omega (
      arith,
      in_level a.n a.d (a.low - a.d) a.alpha (omega arith) (digits c.before),
      pow_pos (a.low - a.d),
      pow_mono {i = a.n - a.d} {j = 10} (omega arith),
    ))

mul_t11 : tie.Need-overflow_mul-alpha
mul_t11 c = omega (arith, lowest c)

label_free_requires : tie.Need-label_free-requires
label_free_requires c κs = lowest c

returns : tie.Need-returns-then-not-label_free
returns c =
    let a = c.args in
    let off : flagged a.flags.now (a.alpha * 2 ^ (a.low - a.d)) ≡ false =
    sym (rw c.pow2.ensures at c.label_free.ensures) ∙ not-true _ c.if-not-label_free.true-raw in
    sym (ap (λ (b : Bool). eqb (bit a.mask a.d) 1 && b) (lowest_first _ width _ _ off) ∙ and-false (eqb (bit a.mask a.d) 1))

digit_requires : tie.Need-digit-requires
digit_requires c κs = search rules

block_at_requires : tie.Need-block_at-requires
block_at_requires c κs = (omega arith, omega arith, digits c.before.before.before.before.before)

returns_2 : tie.Need-returns-then-digit-eq1
returns_2 c =
    let a = c.args in
    let on : bit a.mask a.d ≡ 1 = sym c.digit.ensures ∙ c.if-digit-eq1.true in
    c.block_at.ensures
    ∙ block_run (flagged a.flags.now) a.n a.d (a.low - a.d) a.alpha a.levels.now (omega arith) (omega arith)
    (digits c.before.before.before.before.before.before)
    (c.requires.1 a.d (omega arith) (omega arith) on)
    ∙ rw (eq-eqb _ 1 on)

returns_3 : tie.Need-returns-else-digit-eq1
returns_3 c = rw (ne_eqb _ 1 (λ e. c.if-digit-eq1.false (c.digit.ensures ∙ e)), ne_eqb _ 1 c.if-digit-eq1.false)

pub may_have_spec : {M : Type 1} → statement M
may_have_spec =
    tie.close
    (tie.spec
    sub_l
    pow2_requires
    mul_t11
    label_free_requires
    returns
    digit_requires
    block_at_requires
    returns_2
    returns_3)
