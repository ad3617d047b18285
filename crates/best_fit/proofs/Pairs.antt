-- Entries of 0 and 1, and pairs of them as one number. Assumes nothing.
use Prim.Native.Nat.{ℕ, ◌+◌, ◌*◌, ◌/◌, ◌<◌}
use mathlib.Core.Path.{◌≡◌, refl, sym, ap, ap₂, ◌∙◌}
use mathlib.Core.Bool.{Bool, true, false, not, cond, ◌&&◌}
use mathlib.Core.List.{List}
use native.Mathlib.Omega.{arith}
use lib.Dec.{eqb, leb}
use lib.ListN.{get_or}
use Rattle.hypercube.specs.Levels.{joined, lone, free_half}
use Rattle.runs.specs.Flagged.{flagged}
use Rattle.runs.proofs.Levels.{flag_of_lem}
use Rattle.best_fit.specs.Entries.{Entries, ZeroOne}
use Rattle.best_fit.specs.Seen.{placed}

-- an entry, read as a flag, tells what it stands for
pub told : (g : ℕ → Bool) (N : ℕ) (ls : List ℕ) → Entries g N ls → (x : ℕ) → x < N → flagged ls x ≡ g x
told g N ls E x l = ap (λ (v : ℕ). eqb v 1) (E x l) ∙ flag_of_lem (g x)

pub zero_one : (g : ℕ → Bool) (N : ℕ) (ls : List ℕ) → Entries g N ls → ZeroOne N ls
zero_one g N ls E x l = E x l ∙ ap (λ (b : Bool). cond b 1 0) (sym (told g N ls E x l))

-- two entries as one number
abbrev pair_of : Bool → Bool → ℕ
pair_of a b = cond a 1 0 + 256 * cond b 1 0

pair_both : (a b : Bool) → (pair_of a b + 255) / 512 ≡ cond (a && b) 1 0
pair_both true true = refl
pair_both true false = refl
pair_both false true = refl
pair_both false false = refl

pair-lone : (a b : Bool) → leb 1 (pair_of a b) && leb (pair_of a b) 256 ≡ cond a (not b) b
pair-lone true true = refl
pair-lone true false = refl
pair-lone false true = refl
pair-lone false false = refl

-- the pair at x, of entries of 0 and 1
pair_at : (N x : ℕ) (ls : List ℕ) → ZeroOne (2 * N) ls → x < N
    → get_or ls (2 * x) 0 + 256 * get_or ls (2 * x + 1) 0 ≡ pair_of (flagged ls (2 * x)) (flagged ls (2 * x + 1))
pair_at N x ls Z l = ap₂ (λ (a b : ℕ). a + 256 * b) (Z (2 * x) (omega arith)) (Z (2 * x + 1) (omega arith))

-- what is computed of it, v: the entry that the level above gets
pub entry_at : (N x : ℕ) (ls : List ℕ) (v : ℕ) → ZeroOne (2 * N) ls → x < N → v ≡ get_or ls (2 * x) 0 + 256 * get_or ls (2 * x + 1) 0
    → (v + 255) / 512 ≡ cond (joined (flagged ls) x) 1 0
entry_at N x ls v Z l e =
    ap (λ (z : ℕ). (z + 255) / 512) (e ∙ pair_at N x ls Z l) ∙ pair_both (flagged ls (2 * x)) (flagged ls (2 * x + 1))

-- and its place
pub place_at : (N x : ℕ) (ls : List ℕ) (v : ℕ) {r : ℕ} → ZeroOne (2 * N) ls → x < N → v ≡ get_or ls (2 * x) 0 + 256 * get_or ls (2 * x + 1) 0
    → r ≡ placed (leb 1 v && leb v 256) x → r ≡ placed (lone (flagged ls) x) x
place_at N x ls v Z l e p =
    p ∙ ap (λ (z : ℕ). placed (leb 1 z && leb z 256) x) (e ∙ pair_at N x ls Z l)
    ∙ ap (λ (t : Bool). placed t x) (pair-lone (flagged ls (2 * x)) (flagged ls (2 * x + 1)))

-- what goes by a pair goes by its two halves
module _ (p q : ℕ → Bool) (N : ℕ) (h : (x : ℕ) → x < 2 * N → p x ≡ q x) where
  pub joined_same : (x : ℕ) → x < N → joined p x ≡ joined q x
  joined_same x l = ap₂ ◌&&◌ (h (2 * x) (omega arith)) (h (2 * x + 1) (omega arith))

  pub lone_same : (x : ℕ) → x < N → lone p x ≡ lone q x
  lone_same x l = ap₂ (λ (a b : Bool). cond a (not b) b) (h (2 * x) (omega arith)) (h (2 * x + 1) (omega arith))

  pub half_same : (x : ℕ) → x < N → free_half p x ≡ free_half q x
  half_same x l = ap (λ (a : Bool). cond a (2 * x) (2 * x + 1)) (h (2 * x) (omega arith))
