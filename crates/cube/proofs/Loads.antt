-- What the loading call lets through: records that stand for a history at which a list may begin, and every one that does. Assumes nothing.
use mathlib.Core.Path.{◌≡◌, refl, sym, ap, ap₂, ◌∙◌, subst}
use mathlib.Core.Logic.{⊎_elim}
use mathlib.Core.Bool.{Bool, true, false, cond, false≢true}
use mathlib.Core.List.{List}
use Prim.Native.Nat.{ℕ, ◌^◌, ◌<◌, ◌≤◌}
use native.Mathlib.Omega.{arith}
use lib.ListN.{length, get_or, get_or-eq_default}
use Rattle.hypercube.specs.Tests.{fails}
use Rattle.hypercube.specs.Conditions.{Condition}
use Rattle.hypercube.specs.Formed.{formed}
use Rattle.hypercube.proofs.Bits.{lt_or}
use Rattle.history.specs.Account.{History}
use Rattle.history.specs.Claims.{Begins}
use Rattle.state.specs.declared.State.{State}
use Rattle.state.specs.View.{entry, view}
use Rattle.state.proofs.Valid.{Valid, means_valid}
use Rattle.record.specs.Layout.{decode, valid_record}
use Rattle.record.specs.Says.{dimension_of, says, formed_record}
use Rattle.record.proofs.Round.{sized-decode, record_says, encode-decode, decode-encode}
use Rattle.cube.specs.Called.{load_number}
use Rattle.cube.specs.Demand3.{Tests}
use Rattle.cube.proofs.Answers.{Stands, stands_valid}

-- ---- its number

pub tests : (r : List ℕ) → Tests r (load_number r)
unfolding load_number
tests r = go (valid_record r) (formed_record r).test refl refl
  where
    go : (a b : Bool) → valid_record r ≡ a → (formed_record r).test ≡ b → Tests r (cond a (cond b 0 18) 1)
    go true true e f =
        let F = (formed_record r).means.holds f in
        record {
          refused_1 = (λ z. absurd (omega arith), λ h. absurd (h e));
          refused_18 = (λ z. absurd (omega arith), λ h. absurd (h.1 F));
          passed = (λ z. (e, F), λ h. refl);
        }
    go true false e f =
        let no = fails (formed_record r).means f in
        record {
          refused_1 = (λ z. absurd (omega arith), λ h. absurd (h e));
          refused_18 = (λ z. (e, no), λ h. refl);
          passed = (λ z. absurd (omega arith), λ h. absurd (no h.1));
        }
    go false b e f =
        let no : ¬ (valid_record r ≡ true) = λ t. false≢true (sym e ∙ t) in
        record {
          refused_1 = (λ z. no, λ h. refl);
          refused_18 = (λ z. absurd (omega arith), λ h. absurd (no h.0));
          passed = (λ z. absurd (omega arith), λ h. absurd (no h.0));
        }

-- ---- a record that stands for a history

module _ {n : ℕ} {h : History} {r : List ℕ} (S : Stands n h r) where
  decoded : decode r ≡ S.state
  decoded = ap decode S.bytes ∙ decode-encode S.state S.sized

  says-dimension : dimension_of r ≡ n
  says-dimension = ap (λ (s : State). s.n) decoded ∙ S.dimension

  pub stands_says : says r ≡ h
  stands_says = ap view decoded ∙ S.viewed

  -- it loads, where a list may begin
  pub stands_loads : n ≤ 10 → Begins n h → load_number r ≡ 0
  stands_loads small B =
      let same : formed n h.holder h.stars ≡ formed_record r =
      ap₂ (λ (m : ℕ) (h : History). formed m h.holder h.stars) (sym says-dimension) (sym stands_says) in
      (tests r).passed.1 (stands_valid small B.bounded S, subst (λ (c : Condition). c.Met) same B.formed)

-- ---- a record that loads

module _ (r : List ℕ) (passed : load_number r ≡ 0) where
  valid : valid_record r ≡ true
  valid = ((tests r).passed.0 passed).0

  was_valid : Valid (decode r)
  was_valid = (means_valid (decode r) (sized-decode r).directions).holds (record_says r valid).state

  pub loaded_small : dimension_of r ≤ 10
  loaded_small = was_valid.small

  pub loaded_stands : ((i : ℕ) → get_or r i 0 < 256) → Stands (dimension_of r) (says r) r
  loaded_stands bytes =
      let R = record_says r valid in
      record { state = decode r; bytes = sym (encode-decode r R.long bytes R.head); sized = sized-decode r; dimension = refl; viewed = refl }

  -- an entry from 2^n up: none beyond the list, and within it what refusal 1 tests
  beyond : (l : List ℕ) → length l ≡ 1024 → (x : ℕ) → (x < 1024 → get_or l x 0 ≡ 0) → entry l x ≡ 0
  beyond l e x h = ⊎_elim h (λ (g : 1024 ≤ x). get_or-eq_default l 0 {n = x} (omega arith)) (lt_or x 1024)

  pub loaded_begins : Begins (dimension_of r) (says r)
  loaded_begins =
      let z = sized-decode r in
      let w = was_valid in
      let none : (x : ℕ) → 2 ^ dimension_of r ≤ x → entry (decode r).conditions x ≡ 0 =
      λ x a. beyond (decode r).conditions z.conditions x (w.no_conditions x a) in
      record {
        bounded = record {
          no_conditions = none;
          no_holders = λ x a. beyond (decode r).holders z.holders x (w.no_holders x a);
          unstarred = λ x e. beyond (decode r).stars z.stars x (λ l. w.unstarred x l e);
          conditions = λ x. ⊎_elim (w.conditions x) (λ a. omega (arith, none x a)) (lt_or x (2 ^ dimension_of r));
          permutes = w.permutes;
        };
        formed = ((tests r).passed.0 passed).1;
      }
