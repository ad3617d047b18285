use Rattle.std.proofs.Common.{◌≡◌, ◌^◌, rules, arith}
use lib.Pow.{pow_mono}
use Rattle.state.proofs.node_count.Goals as goal

pub returns : goal.returns
returns c =
    let e : c.from-2.result ≡ 2 ^ c.args.n = search rules in
    (e, omega (arith, e, pow_mono {i = c.args.n} {j = 10} (omega arith)))
