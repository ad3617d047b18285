-- A loop that reads both halves of a list at once finds the highest of all, or whether all are 0. Assumes nothing.
use Prim.Native.Nat.{ℕ, ◌+◌, ◌-◌, ◌/◌, ◌<◌, ◌≤◌, max}
use mathlib.Core.Logic.{◌↔◌, ⊎_elim}
use mathlib.Core.Path.{◌≡◌, subst}
use mathlib.Core.List.{List}
use native.Mathlib.Decide.{ℕ_discrete}
use native.Mathlib.Omega.{arith}
use lib.Bits.{bit_or, or_add_and, and_le_l, and_le_r}
use lib.Dec.{eqb}
use lib.ListN.{length, get_or}
use Rattle.hypercube.proofs.Bits.{lt_or}
use Rattle.hypercube.specs.Tests.{means_eq, same_test}
use Rattle.record.specs.Highest.{highest_of, all_zero}
use Rattle.record.proofs.Maximum.{within, above}

-- an 'or' is 0 where both are
pub or_zero : (a b : ℕ) → (bit_or a b ≡ 0) ↔ ((a ≡ 0) × (b ≡ 0))
or_zero a b =
    let sum = or_add_and a b in
    let left = and_le_l a b in
    let right = and_le_r a b in
    (λ h. (omega arith, omega arith), λ h. omega arith)

module _ (l : List ℕ) where
  -- where the upper half begins; it has as many entries as the lower, or one more
  abbrev upper : ℕ
  upper = length l / 2

  -- the entries at place i of both are at most v
  abbrev Both : ℕ → ℕ → Type 0
  Both v i = (get_or l i 0 ≤ v) × (get_or l (upper + i) 0 ≤ v)

  -- so are the first i
  abbrev UpTo : ℕ → ℕ → Type 0
  UpTo i v = (j : ℕ) → j < i → Both v j

  up_to_next : (i v : ℕ) → UpTo (i + 1) v ↔ (UpTo i v × Both v i)
  up_to_next i v = (λ h. (λ j q. h j (omega arith), h i (omega arith)), λ h j q. go h j q (ℕ_discrete j i))
    where
      go : UpTo i v × Both v i → (j : ℕ) → j < i + 1 → Dec (j ≡ i) → Both v j
      go h j q (yes e) = subst (Both v) (omega arith) h.1
      go h j q (no d) = h.0 j (omega arith)

  up_to_all : (i v : ℕ) → i ≡ length l - upper → UpTo i v ↔ (highest_of l ≤ v)
  up_to_all i v e = (
    λ h. above l v (λ k q. ⊎_elim (λ b. (h k b).0)
        (λ g. subst (λ (z : ℕ). get_or l z 0 ≤ v) (omega arith) (h (k - upper) (omega arith)).1) (lt_or k i)),
    λ h j q. (within l v h j (omega arith), within l v h (upper + j) (omega arith)),
  )

  -- m is the highest of the first i entries of both
  pub record Highest (i m : ℕ) : Type 0 where
    pub bounds : (v : ℕ) → (m ≤ v) ↔ UpTo i v

  pub highest_none : Highest 0 0
  highest_none = record { bounds = λ v. (λ h j q. absurd (omega arith), λ h. omega arith) }

  pub highest_next : (i m v : ℕ) → Highest i m → v ≡ max m (max (get_or l i 0) (get_or l (upper + i) 0)) → Highest (i + 1) v
  highest_next i m v f e = record {
    bounds = λ w.
        let next = up_to_next i w in
        let found = f.bounds w in
        (λ h. next.1 (found.0 (omega arith), (omega arith, omega arith)), λ h. let p = next.0 h in omega (arith, found.1 p.0, p.1));
  }

  pub highest_all : (i m : ℕ) → Highest i m → i ≡ length l - upper → m ≡ highest_of l
  highest_all i m f e =
      let all = (up_to_all i (highest_of l) e).1 (omega arith) in
      omega (arith, (f.bounds (highest_of l)).1 all, (up_to_all i m e).0 ((f.bounds m).0 (omega arith)))

  -- with 'or' in place of the greater: m is 0 where they all are
  pub record Zero (i m : ℕ) : Type 0 where
    pub unset : (m ≡ 0) ↔ UpTo i 0

  pub zero_none : Zero 0 0
  zero_none = record { unset = (λ h j q. absurd (omega arith), λ h. omega arith) }

  pub zero_next : (i m : ℕ) → Zero i m → Zero (i + 1) (bit_or m (bit_or (get_or l i 0) (get_or l (upper + i) 0)))
  zero_next i m f =
      let x = get_or l i 0 in
      let y = get_or l (upper + i) 0 in
      let next = up_to_next i 0 in
      let outer = or_zero m (bit_or x y) in
      let inner = or_zero x y in
      record {
        unset = (
          λ h. let p = outer.0 h in let q = inner.0 p.1 in next.1 (f.unset.0 p.0, (omega arith, omega arith)),
          λ h. let p = next.0 h in outer.1 (f.unset.1 p.0, inner.1 (omega (arith, p.1), omega (arith, p.1))),
        );
      }

  pub zero_all : (i m : ℕ) → Zero i m → i ≡ length l - upper → eqb m 0 ≡ all_zero l
  zero_all i m f e =
      let all = up_to_all i 0 e in
      same_test (means_eq m 0) (means_eq (highest_of l) 0) (λ z. omega (arith, all.0 (f.unset.0 z)), λ z. f.unset.1 (all.1 (omega arith)))
