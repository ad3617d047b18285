-- Document 02, (e), leaves a plain request as it was: its job holds no node, so a node is free to it exactly if it is good and unheld, and it loses
-- nothing where a grant takes its nodes away. Assumes nothing.
use Prim.Native.Nat.{ℕ, ◌^◌, ◌<◌, ◌≤◌}
use mathlib.Core.Path.{◌≡◌, sym, ap, ap₂, ◌∙◌}
use mathlib.Core.Logic.{◌≢◌, ⊎_elim}
use mathlib.Core.Bool.{false, ◌&&◌, or-false}
use mathlib.Core.List.{List}
use borrow.Author.Tests.{eq-eqb, ne_eqb}
use lib.Dec.{eqb}
use lib.ListN.{length, get_or}
use Rattle.hypercube.proofs.Bits.{lt_or}
use Rattle.hypercube.proofs.Below.{means_any}
use Rattle.hypercube.proofs.Lists.{is_each}
use Rattle.hypercube.specs.Tests.{fails}
use Rattle.state.specs.declared.State.{State}
use Rattle.state.specs.States.{with_holders, with_stars, cleared, lost}
use Rattle.state.proofs.Valid.{Sized, Valid}
use Rattle.state.specs.Checks.{holds}
use Rattle.state.specs.Effects.{free_node}

module _ (s : State) (v : Valid s) (z : Sized s) (j : ℕ) (set : j ≢ 0) (none : holds s j ≡ false) where
  not_mine : (x : ℕ) → x < 1024 → get_or s.holders x 0 ≢ j
  not_mine x h e =
      ⊎_elim
      (λ (l : x < 2 ^ s.n). fails (means_any (λ y. eqb (get_or s.holders y 0) j) (2 ^ s.n)) none (x, l, eq-eqb _ _ e))
      (λ (g : 2 ^ s.n ≤ x). set (sym e ∙ v.no_holders x g h))
      (lt_or x (2 ^ s.n))

  pub plain_free : (x : ℕ) → x < 1024 → free_node s j x ≡ eqb (get_or s.conditions x 0) 1 && eqb (get_or s.holders x 0) 0
  plain_free x h =
      rw (ne_eqb _ _ (not_mine x h)) (ap (λ b. eqb (get_or s.conditions x 0) 1 && b) (or-false (eqb (get_or s.holders x 0) 0)))

  nothing_cleared : (l : List ℕ) → length l ≡ 1024 → cleared l s.holders j ≡ l
  nothing_cleared l e = sym (is_each _ 1024 l e (λ x h. rw (ne_eqb _ _ (not_mine x h))))

  pub plain_lose : lost s j ≡ s
  plain_lose =
      ap₂ (λ (hs vs : List ℕ). with_holders (with_stars s vs) hs) (nothing_cleared s.holders z.holders) (nothing_cleared s.stars z.stars)
