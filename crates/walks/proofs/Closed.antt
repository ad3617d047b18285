-- Rows without a free member: what the walks over them answer. Assumes nothing.
use Prim.Native.Nat.{ℕ, suc, ◌+◌, ◌-◌, ◌*◌, ◌^◌, ◌<◌, ◌≤◌}
use mathlib.Core.Path.{◌≡◌, ap, ◌∙◌}
use mathlib.Core.Bool.{Bool, false}
use mathlib.Core.List.{List}
use native.Mathlib.Omega.{arith}
use lib.ListN.{length}
use lib.Pow.{pow_pos}
use Rattle.hypercube.specs.Lists.{In, over, only}
use Rattle.hypercube.specs.Bits.{width, clear}
use Rattle.hypercube.specs.Subcubes.{subcube, is_free}
use Rattle.hypercube.specs.Families.{tree_member, places, tree, further, more, first_free}
use Rattle.hypercube.specs.declared.Subcube.{Subcube}
use Rattle.hypercube.specs.declared.Walk.TheVariants.{NoneFree}
use Rattle.hypercube.proofs.Bits.{clear_zero, bit-zero}
use Rattle.hypercube.proofs.Lists.{in_over, in_only}
use Rattle.hypercube.proofs.Search.{misses}
use Rattle.planes.specs.Rows.{NoMember}
use Rattle.runs.specs.Levels.{top_stars, Levels}
use Rattle.runs.proofs.Runs.{run_first, low_run}
use Rattle.runs.proofs.Levels.{in_level}
use Rattle.walks.specs.Blocks.{Row}
use Rattle.walks.specs.Open.{Closed}
use Rattle.walks.proofs.Blocks.{halves}

module _ (f : ℕ → Bool) (n : ℕ) where
  -- the places of one α, c of them from p on
  pub no_place : (d l first α c p : ℕ) → NoMember f n d l first → α < 2 ^ (n - l - d) → first ≤ p → p + c ≤ n - l - d
      → (m : Subcube) → In m (places n d l α c p) → is_free f m ≡ false
  no_place d l first α c p N v a h m i =
      let o = in_over (λ p. only (clear α p) (tree_member n d l α p)) c p m i in
      let e = in_only (clear α o.0) (tree_member n d l α o.0) m o.3 in
      ap (is_free f) e.1 ∙ N α o.0 (omega arith) (omega arith) v (clear_zero α o.0 e.0)

  pub tree_closed : (j : ℕ) → j < n → NoMember f n 0 j 0 → first_free (is_free f) (tree n (suc j)) 0 ≡ NoneFree (length (tree n (suc j)))
  tree_closed j h N =
      let z : n - j - 0 ≡ n - j = omega arith in
      let whole : 0 + length (tree n (suc j)) ≡ length (tree n (suc j)) = omega arith in
      misses (is_free f) (tree n (suc j)) 0
      (λ m i.
      let o = in_over (λ α. places n 0 j α (n - j) 0) (2 ^ (n - j)) 0 m i in
      no_place 0 j 0 o.0 (n - j) 0 N (rw z (omega arith)) (omega arith) (omega arith) m o.3)
      ∙ ap NoneFree whole

  -- one α's row of a d that is closed
  pub further_closed : (j α d before : ℕ) → 1 ≤ d → d ≤ j → j < n → α < 2 ^ (n - j) → NoMember f n d (j - d) 1
      → first_free (is_free f) (further n j α d) before ≡ NoneFree (before + length (further n j α d))
  further_closed j α d before p q h v N =
      let e : n - (j - d) - d ≡ n - j = omega arith in
      misses (is_free f) (further n j α d) before (no_place d (j - d) 1 α (n - suc j) 1 N (rw e v) (omega arith) (omega arith))

  -- every d is
  pub more_closed : (j before : ℕ) → j < n → Closed f n j 0 → first_free (is_free f) (more n j) before ≡ NoneFree (before + length (more n j))
  more_closed j before h C =
      misses (is_free f) (more n j) before
      (λ m i.
      let o = in_over (λ α. over (further n j α) j 1) (2 ^ (n - j)) 0 m i in
      let w = in_over (further n j o.0) j 1 m o.3 in
      let e : n - (j - w.0) - w.0 ≡ n - j = omega arith in
      no_place w.0 (j - w.0) 1 o.0 (n - suc j) 1 (C w.0 (omega arith) (omega arith) (bit-zero w.0)) (rw e (omega arith))
      (omega arith) (omega arith) m w.3)

  -- a level that has no free block
  pub level_closed : (j d : ℕ) → d ≤ j → j < n → n ≤ width → ((x : ℕ) → x < 2 ^ (n - d) → is_free f (subcube x (top_stars n d)) ≡ false)
      → NoMember f n d (j - d) 1
  level_closed j d q h w E α p a b v z =
      let l = j - d in
      let R : Row n d l (n - l - d) α = record { narrow = w; sum = omega arith; value = v } in
      let lowest : α * 2 ^ l < 2 ^ (n - d) = omega (arith, in_level n d l α (omega arith) v, pow_pos l) in
      halves R f p false b
      (low_run f (2 ^ d - 1) (n - d) l (α * 2 ^ l) (omega arith) (omega arith)
      ∙ run_first (λ x. is_free f (subcube x (top_stars n d))) (α * 2 ^ l) (2 ^ l) (E (α * 2 ^ l) lowest) (pow_pos l))

  pub levels_closed : (j mask : ℕ) {ls : List ℕ} → j < n → n ≤ width → Levels f n j mask ls → Closed f n j mask
  levels_closed j mask h w L d a b z = level_closed j d b h w (L.empty d a b z)
