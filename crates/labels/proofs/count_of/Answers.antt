use Rattle.std.proofs.Common.{◌≡◌, ◌∙◌, ℕ, ◌/◌, ◌%◌, sym, ap₂, arith}
use lib.Count.{ones}
use Rattle.labels.proofs.Assigning.{size_ones}
use Rattle.labels.proofs.count_of.Goals as goal

pub returns : goal.returns
returns c =
    let e : c.args.mask ≡ c.args.mask / 1 = omega arith in
    ap₂ (λ (x p : ℕ). ones (x % p)) e c.pow2.ensures ∙ sym (size_ones c.args.mask 0 c.args.n)
