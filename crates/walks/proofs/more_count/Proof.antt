-- `walks::more_count` meets its contract. Assumes nothing.
use Prim.Native.Nat.{ℕ, suc, ◌-◌, ◌*◌, ◌^◌, ◌≤◌}
use mathlib.Core.Path.{◌≡◌, sym, ◌∙◌}
use native.Mathlib.Nat.{mul-le-mul}
use native.Mathlib.Omega.{arith}
use borrow.Author.Rules.{rules}
use lib.ListN.{length, length-append}
use Rattle.hypercube.specs.Families.{tree, more}
use Rattle.hypercube.proofs.Counts.{more_count}
use Rattle.walks.proofs.Trees.{extended_few}
use Rattle.walks.proofs.more_count.Statement.{statement}
use Rattle.walks.proofs.more_count.Tie as tie

sub_places : tie.Need-overflow_sub-places
sub_places c = search rules

sub_places_2 : tie.Need-overflow_sub-places-2
sub_places_2 c = search rules

mul_result : tie.Need-overflow_mul-result
mul_result c =
    let small : c.args.low * (c.args.n - c.args.low - 1) ≤ 100 =
    mul-le-mul {n₁ = c.args.low} {m₁ = c.args.n - c.args.low - 1} {n₂ = 10} {m₂ = 10} (omega arith) (omega arith) in
    omega (arith, small)

pow2_requires : tie.Need-pow2-requires
pow2_requires c κs = search rules

counted : (c : tie.After-pow2) → c.args.low * (c.args.n - c.args.low - 1) * c.pow2.result ≡ length (more
    c.args.n c.args.low)
counted c =
    let a = c.args in
    let e : a.n - a.low - 1 ≡ a.n - suc a.low = omega arith in
    rw (c.pow2.ensures, e) (product a.low (a.n - suc a.low) (2 ^ (a.n - suc a.low)) ∙ sym (more_count a.n a.low (omega arith)))
  where
    product : (j r q : ℕ) → j * r * q ≡ j * (r * q)
    product j r q = omega arith

mul_result_2 : tie.Need-overflow_mul-result-2
mul_result_2 c =
    let a = c.args in
    omega (
      arith,
      counted c,
      length-append (tree a.n (suc a.low)) (more a.n a.low),
      extended_few a.n (suc a.low) (λ z. absurd (omega arith)) (omega arith) (omega arith),
    )

returns : tie.Need-returns
returns c = counted c

pub more_count_spec : {M : Type 1} → statement M
more_count_spec =
    tie.close
    (tie.spec
    sub_places
    sub_places_2
    mul_result
    pow2_requires
    mul_result_2
    returns)
