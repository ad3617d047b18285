-- The highest of a list's numbers: what it says of the entries. Assumes nothing.
use Prim.Native.Nat.{ℕ, zero, suc, ◌+◌, ◌-◌, ◌<◌, ◌≤◌}
use mathlib.Core.Logic.{◌↔◌}
use mathlib.Core.Path.{◌≡◌, ◌∙◌}
use mathlib.Core.List.{List, [], ◌∷◌, map}
use native.Mathlib.Omega.{arith}
use lib.ListN.{length, get_or, take, drop, length-take, length-drop}
use lib.Seq.{get_or-take, get_or-drop}
use Rattle.hypercube.specs.Lists.{from}
use Rattle.hypercube.proofs.Lists.{is_each}
use Rattle.record.specs.Highest.{highest_of}

pub within : (l : List ℕ) (v : ℕ) → highest_of l ≤ v → (i : ℕ) → i < length l → get_or l i 0 ≤ v
unfolding highest_of
within [] v h i q = absurd (omega arith)
within (x ∷ xs) v h zero q = omega arith
within (x ∷ xs) v h (suc i) q = within xs v (omega arith) i (omega arith)

pub above : (l : List ℕ) (v : ℕ) → ((i : ℕ) → i < length l → get_or l i 0 ≤ v) → highest_of l ≤ v
unfolding highest_of
above [] v h = omega arith
above (x ∷ xs) v h = omega (arith, h 0 (omega arith), above xs v (λ i q. h (suc i) (omega arith)))

-- the part of a list from place a up to place e
abbrev pub part : List ℕ → ℕ → ℕ → List ℕ
part r a e = take (e - a) (drop a r)

module _ (r : List ℕ) (a e : ℕ) (fits : e ≤ length r) where
  pub length_part : length (part r a e) ≡ e - a
  length_part = simp (length-take, length-drop) (omega arith)

  pub part_at : (i : ℕ) → i < e - a → get_or (part r a e) i 0 ≡ get_or r (a + i) 0
  part_at i h = rw (get_or-take, get_or-drop)

  pub part_within : (v : ℕ) → (highest_of (part r a e) ≤ v) ↔ ((i : ℕ) → a ≤ i → i < e → get_or r i 0 ≤ v)
  part_within v = (
    λ h i b l.
        let q : i - a < e - a = omega arith in
        let p : a + (i - a) ≡ i = omega arith in
        rw p at (rw (part_at (i - a) q) at (within (part r a e) v h (i - a) (omega (arith, length_part)))),
    λ h. above (part r a e) v (λ i l. let q : i < e - a = omega (arith, length_part) in rw (part_at i q) (h (a + i) (omega arith) (omega arith))),
  )

-- n bytes from place a on, one by one
pub part_each : (r : List ℕ) (a n : ℕ) → a + n ≤ length r → part r a (a + n) ≡ map (λ i. get_or r (a + i) 0) (from 0 n)
part_each r a n fits =
    is_each (λ i. get_or r (a + i) 0) n (part r a (a + n)) (length_part r a (a + n) fits ∙ add-sub) (λ i h. part_at r a (a + n) fits i (omega arith))
  where
    add-sub : a + n - a ≡ n
    add-sub = omega arith
