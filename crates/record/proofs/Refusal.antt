-- Refusal 1's test, way out by way out. Assumes nothing.
use Prim.Native.Nat.{ℕ}
use mathlib.Core.Path.{◌≡◌}
use mathlib.Core.Bool.{true, false}
use mathlib.Core.List.{List}
use borrow.Author.Tests.{eq-eqb, ne_eqb}
use lib.Dec.{eqb}
use lib.ListN.{length, get_or}
use Rattle.hypercube.specs.Words.{word}
use Rattle.state.specs.Valid.{valid}
use Rattle.record.specs.Layout.{record_size, record_kind, decode, head_right, valid_record}

module _ (r : List ℕ) where
  -- ---- the head

  pub head_not_size : (word r 0 ≡ record_size → ⊥) → false ≡ head_right r
  unfolding head_right
  head_not_size p = simp (ne_eqb _ _ p)

  pub head_not_kind : word r 0 ≡ record_size → (word r 2 ≡ record_kind → ⊥) → false ≡ head_right r
  unfolding head_right
  head_not_kind p q = simp (eq-eqb _ _ p, ne_eqb _ _ q)

  pub head_zero_byte : word r 0 ≡ record_size → word r 2 ≡ record_kind → eqb (get_or r 15 0) 0 ≡ head_right r
  unfolding head_right
  head_zero_byte p q = simp (eq-eqb _ _ p, eq-eqb _ _ q)

  -- ---- the whole test

  pub not_size : (length r ≡ record_size → ⊥) → false ≡ valid_record r
  unfolding valid_record
  not_size p = simp (ne_eqb _ _ p)

  pub not_head : length r ≡ record_size → head_right r ≡ false → false ≡ valid_record r
  unfolding valid_record
  not_head p q = simp (eq-eqb _ _ p, q)

  pub by_state : length r ≡ record_size → head_right r ≡ true → valid (decode r) ≡ valid_record r
  unfolding valid_record
  by_state p q = simp (eq-eqb _ _ p, q)
