use Rattle.std.proofs.Common.{◌≡◌, ℕ, ◌<◌, ◌↔◌, true, false, refl, IsTrue, rules, EachIndex, get_or, arith}
use Rattle.std.specs.List.{range_with_len}
use Rattle.std.proofs.lemmas.Iterator.{cases_from_all, YieldsList-from_range}
use borrow.Author.Tests.{tests}
use Rattle.std.proofs.lemmas.List.FromFn.{get_or-range_with_len}
use Rattle.hypercube.proofs.Below.{means_all}
use Rattle.hypercube.specs.Tests.{same_test}
use Rattle.state.specs.Valid.{entry_right, map_right}
use Rattle.state.proofs.entries_right.Goals as goal

pub returns : goal.returns
unfolding map_right
returns c =
    let right = entry_right c.args.map.now c.args.n in
    let all = range_with_len 0 10 in
    let cases =
    cases_from_all _ _ _ (λ i. right i ≡ true) (λ i. right i ≡ false) c.all.ensures.ran (YieldsList-from_range 0 10 10 refl refl)
    (λ x q k. search (rules, tests)) (λ x q k. search (rules, tests)) in
    let found : IsTrue c.all.result ↔ EachIndex all (λ i. right (get_or all i 0) ≡ true) = search rules in
    let at : (i : ℕ) → i < 10 → get_or all i 0 ≡ i = λ i l. omega (arith, get_or-range_with_len 0 10 i 0 l) in
    same_test (record { holds = found.0; shows = found.1 }) (means_all right 10)
    (λ h i l. rw (at i l) at (h i l), λ h i l. rw (at i l) (h i l))
