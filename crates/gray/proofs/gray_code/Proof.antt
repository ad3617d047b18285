-- `gray::gray_code` meets its contract: the constants pass the one test, computed over both. Assumes nothing.
use mathlib.Core.Path.{refl}
use Rattle.gray.proofs.Tested.{tested, passed}
use Rattle.gray.proofs.gray_code.Statement.{statement}
use Rattle.gray.proofs.gray_code.Tie as tie

returns : tie.Need-returns
unfolding tested
returns c = passed _ _ refl refl

pub gray_code_spec : {M : Type 1} → statement M
gray_code_spec =
    tie.close
    (tie.spec
    returns)
