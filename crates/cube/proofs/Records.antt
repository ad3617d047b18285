-- The bytes of a state, place by place, are the history's, and beyond the cube as set-up left them. Assumes nothing.
use mathlib.Core.Path.{◌≡◌, sym, ◌∙◌}
use mathlib.Core.List.{List}
use Prim.Native.Nat.{ℕ, ◌+◌, ◌*◌, ◌^◌, ◌<◌, ◌≤◌}
use native.Mathlib.Omega.{arith}
use lib.Pow.{pow_mono}
use lib.ListN.{length, get_or}
use Rattle.hypercube.specs.Words.{word}
use Rattle.history.specs.Account.{History}
use Rattle.history.specs.Claims.{Bounded}
use Rattle.record.proofs.Round.{length-encode, encode_n, encode-map, encode_condition, word-says, says_holders, says_stars}
use Rattle.cube.specs.Demand3.{Recorded}
use Rattle.cube.proofs.Answers.{Stands, stands_valid}
use Rattle.record.specs.Layout.{map_at, holders_at, conditions_at, stars_at, record_size}

-- the bytes r are the history's at every place
pub record Reads (n : ℕ) (h : History) (r : List ℕ) : Type 0 where
  whole : length r ≡ record_size
  dimension : get_or r 4 0 ≡ n
  directions : (i : ℕ) → i < 10 → get_or r (map_at + i) 0 ≡ get_or h.directions i 0
  pub holders : (x : ℕ) → x < 1024 → word r (holders_at + 2 * x) ≡ h.holder x
  conditions : (x : ℕ) → x < 1024 → get_or r (conditions_at + x) 0 ≡ h.condition x
  pub stars : (x : ℕ) → x < 1024 → word r (stars_at + 2 * x) ≡ h.stars x

pub reads : {n : ℕ} {h : History} {r : List ℕ} → Stands n h r → Reads n h r
reads S =
    let s = S.state in
    let z = S.sized in
    rw (S.bytes, ← S.viewed, ← S.dimension) (record {
      whole = length-encode s z;
      dimension = encode_n s z;
      directions = encode-map s z;
      holders = word-says (says_holders s z);
      conditions = encode_condition s z;
      stars = word-says (says_stars s z);
    })

pub recorded : {n : ℕ} {h₀ h : History} {r₀ r : List ℕ}
    → n ≤ 10 → Stands n h₀ r₀ → Bounded n h₀ → Stands n h r → Bounded n h → Recorded n h r₀ r
recorded {n} small S₀ B₀ S B =
    let R₀ = reads S₀ in
    let R = reads S in
    let fits : 2 ^ n ≤ 1024 = pow_mono small in
    record {
      whole = R.whole;
      valid = stands_valid small B S;
      dimension = R.dimension;
      directions = λ i l. R.directions i (omega arith);
      holders = λ x l. R.holders x (omega arith);
      conditions = λ x l. R.conditions x (omega arith);
      stars = λ x l. R.stars x (omega arith);
      directions_beyond = λ i a l. R.directions i l ∙ B.permutes.own i a l ∙ sym (R₀.directions i l ∙ B₀.permutes.own i a l);
      holders_beyond = λ x a l. R.holders x l ∙ B.no_holders x a ∙ sym (R₀.holders x l ∙ B₀.no_holders x a);
      conditions_beyond = λ x a l. R.conditions x l ∙ B.no_conditions x a ∙ sym (R₀.conditions x l ∙ B₀.no_conditions x a);
      stars_beyond = λ x a l.
          R.stars x l ∙ B.unstarred x (B.no_holders x a) ∙ sym (R₀.stars x l ∙ B₀.unstarred x (B₀.no_holders x a));
    }
