-- `record::stray` meets its contract. Assumes nothing.
use borrow.Author.Tests.{eq-eqb, ne_eqb}
use Rattle.record.proofs.stray.Statement.{statement}
use Rattle.record.proofs.stray.Tie as tie

returns : tie.Need-returns-then-holder-eq0
returns c = simp (eq-eqb _ _ c.if-holder-eq0.true)

returns_2 : tie.Need-returns-else-holder-eq0
returns_2 c = simp (ne_eqb _ _ c.if-holder-eq0.false)

pub stray_spec : {M : Type 1} → statement M
stray_spec =
    tie.close
    (tie.spec
    returns
    returns_2)
