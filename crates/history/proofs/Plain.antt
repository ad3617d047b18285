-- Document 02, (e), leaves a plain request as it was: its job holds nothing, so a node is free to it exactly if it is good and unheld, and its grant
-- takes no node away. Assumes nothing.
use mathlib.Core.Path.{◌≡◌, sym, ap, ap₂, ◌∙◌, fun_ext}
use mathlib.Core.Logic.{◌⊎◌, inl, inr, ◌↔◌, ◌≢◌, ⊎_elim}
use Prim.Native.Nat.{ℕ, ◌^◌, ◌<◌, ◌≤◌}
use borrow.Author.Tests.{ne_eqb}
use Rattle.hypercube.specs.Labels.{node}
use Rattle.hypercube.specs.declared.Subcube.{Subcube}
use Rattle.hypercube.specs.declared.Walk.TheVariants.{Found}
use Rattle.hypercube.proofs.Bits.{lt_or}
use Rattle.hypercube.specs.Lists.{In}
use Rattle.history.specs.Calls.{Call, kind, job, ask, starting}
use Rattle.history.specs.Account.{History, wipe, with_held, lose, take_over, FreeNode, member_nodes}
use Rattle.history.specs.Verdicts.{give}
use Rattle.history.specs.Claims.{Bounded}
use Rattle.history.proofs.Effects.{starting_names}
use Rattle.history.proofs.Passed.{Passed}

module _ (n : ℕ) (h : History) (B : Bounded n h) (c : Call) (k : In (kind c) starting) (p : Passed n h c) where
  not_its : (x : ℕ) → h.holder x ≢ job c
  not_its x e =
      ⊎_elim (λ (l : x < 2 ^ n). p.holds_none k (x, l, e))
      (λ (g : 2 ^ n ≤ x). p.job-set (starting_names (kind c) k) (sym e ∙ B.no_holders x g)) (lt_or x (2 ^ n))

  pub plain_free : (x : ℕ) → FreeNode h (ask c) x ↔ ((h.condition x ≡ 1) × (h.holder x ≡ 0))
  plain_free x = (λ f. (f.0, unheld f.1), λ f. (f.0, inl f.1))
    where
      unheld : (h.holder x ≡ 0) ⊎ (h.holder x ≡ job c) → h.holder x ≡ 0
      unheld (inl z) = z
      unheld (inr z) = absurd (not_its x z)

  nothing_wiped : (f : ℕ → ℕ) → wipe f h.holder (job c) ≡ f
  nothing_wiped f = fun_ext (λ x. rw (ne_eqb _ _ (not_its x)))

  plain_lose : lose h (job c) ≡ h
  plain_lose = ap₂ (with_held h) (nothing_wiped h.holder) (nothing_wiped h.stars)

  pub plain_give : (m : Subcube) (t : ℕ)
      → give n h (job c) (Found m t) ≡ take_over h (member_nodes h m) (job c) (node h.directions m.stars)
  plain_give m t = ap (λ (s : History). take_over s (member_nodes h m) (job c) (node h.directions m.stars)) plain_lose
