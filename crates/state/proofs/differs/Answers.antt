use Rattle.std.proofs.Common.{◌≡◌, ◌≢◌, ◌↔◌, not, length, take, get_or, EachIndex, IsTrue, rules, arith}
use Rattle.std.proofs.lemmas.List.{get_or-take, length-take}
use lib.Dec.{eqb}
use Rattle.hypercube.proofs.Below.{means_each}
use Rattle.hypercube.specs.Tests.{means_eq, means_not, same_test}
use Rattle.state.proofs.differs.Goals as goal

pub returns : goal.returns
returns c =
    let ds = c.args.map.now in
    let i = c.args.i in
    let e = get_or ds i 0 in
    let found : IsTrue c.all.result ↔ EachIndex (take i ds) (λ j. get_or (take i ds) j 0 ≢ e) = search rules in
    let long : length (take i ds) ≡ i = omega (arith, length-take i ds) in
    same_test (record { holds = found.0; shows = found.1 })
    (means_each (λ j. not (eqb (get_or ds j 0) e)) (λ j. get_or ds j 0 ≢ e) i (λ j l. means_not (means_eq (get_or ds j 0) e)))
    (λ h j l. rw (get_or-take i ds j 0 l) at (h j (omega arith)), λ h j l. rw (get_or-take i ds j 0 (omega arith)) (h j (omega arith)))
