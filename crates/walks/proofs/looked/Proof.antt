-- `walks::looked` meets its contract. Assumes nothing.
use mathlib.Core.Logic.{⊎_elim}
use native.Mathlib.Omega.{arith}
use borrow.Author.Rules.{rules}
use Rattle.hypercube.proofs.Bits.{bit_cases, bit-and}
use Rattle.walks.proofs.looked.Statement.{statement}
use Rattle.walks.proofs.looked.Tie as tie

sub_pow2 : tie.Need-overflow_sub-n
sub_pow2 c = search rules

pow2_requires : tie.Need-pow2-requires
pow2_requires c κs = search rules

mul_if1 : tie.Need-overflow_mul-t-7
mul_if1 c = search rules

returns : tie.Need-returns-then-pow2
returns c = ((λ d o. o), c.requires.1)

open_rows_requires : tie.Need-open_rows-requires
open_rows_requires c κs = search rules

returns_2 : tie.Need-returns
returns_2 c =
    let mask = c.args.mask in
    let left = c.open_rows.result in (
      (λ d o. omega (arith, bit-and mask left d)),
      (λ d a b z.
          ⊎_elim (c.requires.1 d a b)
          (λ o. c.open_rows.ensures d a b (omega (arith, bit-and mask left d)))
          (bit_cases mask d)),
    )

pub looked_spec : {M : Type 1} → statement M
looked_spec =
    tie.close
    (tie.spec
    sub_pow2
    pow2_requires
    mul_if1
    returns
    open_rows_requires
    returns_2)
