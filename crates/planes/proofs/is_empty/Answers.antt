use Rattle.std.proofs.Common.{◌≡◌, take, sym, ◌∙◌, rules, eqb-true}
use Rattle.std.specs.List.{fold}
use Rattle.std.specs.Int.Bits.{bit_or}
use Rattle.planes.proofs.Folds.{none_empty}
use Rattle.planes.proofs.is_empty.Goals as goal

pub returns : goal.returns
returns c = λ q.
    let r : c.fold.result ≡ fold bit_or 0 (take 128 c.args.bytes.now) = search rules in
    none_empty c.args.bytes.now (sym r ∙ eqb-true c.fold.result 0 q)
