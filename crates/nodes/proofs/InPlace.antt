-- An entry stored in a record in place: the record of the state with that entry set. Assumes nothing.
use Prim.Native.Nat.{ℕ, ◌+◌, ◌*◌, ◌%◌, ◌/◌, ◌<◌}
use mathlib.Core.Path.{◌≡◌, refl, sym, ap, ◌∙◌}
use mathlib.Core.Logic.{inl, inr}
use mathlib.Core.List.{List, [], ◌++◌}
use native.Mathlib.Omega.{arith}
use lib.ListN.{length, set, drop}
use borrow.Rule.Slice.PartMut.{put_mid}
use Rattle.std.proofs.lemmas.List.{drop_at}
use Rattle.hypercube.specs.Words.{words}
use Rattle.state.specs.declared.State.{State}
use Rattle.state.specs.States.{with_condition, with_map, with_holders, with_stars}
use Rattle.state.proofs.Valid.{Sized}
use Rattle.record.specs.Layout.{map_at, holders_at, conditions_at, stars_at, encode}
use Rattle.record.proofs.Between.{set_between, set-word_between}
use Rattle.record.proofs.Places.{head, to_conditions, to_stars, after_holders, after_map, by_map, by_holders, by_conditions, by_stars}
use Rattle.record.proofs.Places.{to_holders, to_conditions_lem, to_stars_lem}
use Rattle.nodes.specs.Words.{Words, words_of, with_words}

module _ (s : State) (z : Sized s) where
  pub set_map_lem : (ds : List ℕ) → put_mid map_at 10 (encode s) ds ≡ encode (with_map s ds)
  set_map_lem ds =
      let e : drop 10 (s.map ++ after_map s) ≡ after_map s = drop_at s.map (after_map s) 10 z.directions in
      rw (by_map s s.map, e) (sym (by_map s ds))

  pub set_condition_entry : (x v : ℕ) → x < 1024 → set (encode s) (conditions_at + x) v ≡ encode (with_condition s x v)
  set_condition_entry x v h =
      ap (λ (l : List ℕ). set l (conditions_at + x) v) (by_conditions s s.conditions)
      ∙ set_between (to_conditions s) (words s.stars) conditions_at (to_conditions_lem s z) s.conditions x (conditions_at + x) v
      (omega (arith, z.conditions)) refl
      ∙ sym (by_conditions s (set s.conditions x v))

  -- the words l stand after xs and before ys, and so do others in their place
  set-part : (at : ℕ) (xs ys l : List ℕ) (with_part : List ℕ → State) → length xs ≡ at → length l ≡ 1024 → encode s ≡ encode (with_part l)
      → ((m : List ℕ) → encode (with_part m) ≡ xs ++ (words m ++ ys)) → (x v : ℕ) → x < 1024
      → set (set (encode s) (at + 2 * x) (v % 256)) (at + 2 * x + 1) (v / 256) ≡ encode (with_part (set l x v))
  set-part at xs ys l with_part long e same says x v h =
      ap (λ (b : List ℕ). set (set b (at + 2 * x) (v % 256)) (at + 2 * x + 1) (v / 256)) (same ∙ says l)
      ∙ set-word_between xs ys at long l x v (omega arith) ∙ sym (says (set l x v))

  pub set-word-entry : (at : ℕ) → Words at → (x v : ℕ) → x < 1024
      → set (set (encode s) (at + 2 * x) (v % 256)) (at + 2 * x + 1) (v / 256) ≡ encode (with_words at s (set (words_of at s) x v))
  set-word-entry at (inl e) = rw e
      (set-part holders_at (head s) (after_holders s) s.holders (with_holders s) (to_holders s z) z.holders refl (by_holders s))
  set-word-entry at (inr e) = rw e (set-part stars_at (to_stars s) [] s.stars (with_stars s) (to_stars_lem s z) z.stars refl (by_stars s))
