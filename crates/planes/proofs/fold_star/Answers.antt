use Rattle.std.proofs.Common.{ℕ, sym, subst, arith}
use Rattle.std.proofs.Math.Pow.{pow_mono}
use Rattle.planes.specs.Planes.{High}
use Rattle.planes.proofs.Stars.{high_7, high_8, high_9}
use Rattle.planes.proofs.fold_star.Goals as goal

-- the last arm has the lowest seven
pub star_low-requires : goal.star_low-requires
star_low-requires c = omega (arith, pow_mono {i = c.args.i} {j = 6} (omega arith))

pub returns-in-7 : goal.returns-in-7
returns-in-7 c = c.star_high.ensures c.args.i (subst (λ (i : ℕ). High i 1 85) (sym c.in-7.is) high_7)

pub returns-in-8 : goal.returns-in-8
returns-in-8 c = c.star_high-in-8.ensures c.args.i (subst (λ (i : ℕ). High i 2 51) (sym c.in-8.is) high_8)

pub returns-in-9 : goal.returns-in-9
returns-in-9 c = c.star_high-in-9.ensures c.args.i (subst (λ (i : ℕ). High i 4 15) (sym c.in-9.is) high_9)
