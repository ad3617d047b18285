-- Bytes that stand between others, and the two bytes of each number there: read and set. Assumes nothing.
use Prim.Native.Nat.{ℕ, zero, suc, ◌+◌, ◌*◌, ◌%◌, ◌/◌, ◌<◌}
use mathlib.Core.Path.{◌≡◌, refl, ap, ◌∙◌}
use mathlib.Core.List.{List, [], ◌∷◌, ◌++◌}
use native.Mathlib.Omega.{arith}
use lib.ListN.{length, get_or, set, length-set, get_or-append}
use lib.Seq.{set-append_left}
use Rattle.hypercube.specs.Words.{words}
use Rattle.hypercube.proofs.Lists.{get_d_past}

-- ---- two bytes of each number

pub length-words : (l : List ℕ) → length (words l) ≡ 2 * length l
unfolding words
length-words [] = refl
length-words (x ∷ xs) = omega (arith, length-words xs)

pub low_at_lem : (l : List ℕ) (i : ℕ) → i < length l → get_or (words l) (2 * i) 0 ≡ get_or l i 0 % 256
unfolding words
low_at_lem [] i h = absurd (omega arith)
low_at_lem (x ∷ xs) zero h = refl
low_at_lem (x ∷ xs) (suc i) h = let e : 2 * suc i ≡ suc (suc (2 * i)) = omega arith in rw e (low_at_lem xs i (omega arith))

pub high_at_lem : (l : List ℕ) (i : ℕ) → i < length l → get_or (words l) (2 * i + 1) 0 ≡ get_or l i 0 / 256
unfolding words
high_at_lem [] i h = absurd (omega arith)
high_at_lem (x ∷ xs) zero h = refl
high_at_lem (x ∷ xs) (suc i) h = let e : 2 * suc i + 1 ≡ suc (suc (2 * i + 1)) = omega arith in rw e (high_at_lem xs i (omega arith))

-- both bytes of a number set
set_words : (l : List ℕ) (i v : ℕ) → set (set (words l) (2 * i) (v % 256)) (2 * i + 1) (v / 256) ≡ words (set l i v)
unfolding words
set_words [] i v = refl
set_words (x ∷ l) zero v = refl
set_words (x ∷ l) (suc i) v =
    let e : 2 * suc i + 1 ≡ suc (suc (2 * i + 1)) = omega arith in
    let d : 2 * suc i ≡ suc (suc (2 * i)) = omega arith in
    rw (e, d) (ap (λ (m : List ℕ). (x % 256) ∷ (x / 256) ∷ m) (set_words l i v))

-- an entry of the second of two lists set
set_past : (xs ys : List ℕ) (k j v : ℕ) → length xs + k ≡ j → set (xs ++ ys) j v ≡ xs ++ set ys k v
set_past [] ys k j v e = ap (λ (i : ℕ). set ys i v) (omega arith)
set_past (x ∷ xs) ys k zero v e = absurd (omega arith)
set_past (x ∷ xs) ys k (suc j) v e = ap (λ (l : List ℕ). x ∷ l) (set_past xs ys k j v (omega arith))

-- ---- after xs, which end at place at, and before ys

module _ (xs ys : List ℕ) (at : ℕ) (long : length xs ≡ at) where
  pub byte_between : (bs : List ℕ) (k j : ℕ) → k < length bs → at + k ≡ j → get_or (xs ++ (bs ++ ys)) j 0 ≡ get_or bs k 0
  byte_between bs k j h e = get_d_past xs (bs ++ ys) 0 k j (omega arith) ∙ get_or-append bs ys 0 k h

  pub set_between : (bs : List ℕ) (k j v : ℕ) → k < length bs → at + k ≡ j → set (xs ++ (bs ++ ys)) j v ≡ xs ++ (set bs k v ++ ys)
  set_between bs k j v h e =
      set_past xs (bs ++ ys) k j v (omega arith) ∙ ap (λ (l : List ℕ). xs ++ l) (set-append_left bs ys k v h)

  -- both bytes of a number
  pub set-word_between : (l : List ℕ) (x v : ℕ) → x < length l
      → set (set (xs ++ (words l ++ ys)) (at + 2 * x) (v % 256)) (at + 2 * x + 1) (v / 256) ≡ xs ++ (words (set l x v) ++ ys)
  set-word_between l x v h =
      let low : List ℕ = set (words l) (2 * x) (v % 256) in
      ap (λ (b : List ℕ). set b (at + 2 * x + 1) (v / 256))
      (set_between (words l) (2 * x) (at + 2 * x) (v % 256) (omega (arith, length-words l)) refl)
      ∙ set_between low (2 * x + 1) (at + 2 * x + 1) (v / 256) (omega (arith, length-words l, length-set (words l) (2 * x) (v % 256))) (omega arith)
      ∙ ap (λ (b : List ℕ). xs ++ (b ++ ys)) (set_words l x v)
