-- The marks: one more is made, and each job whose lowest node came before node x has one. Assumes nothing.
use Prim.Native.Nat.{ℕ, zero, suc, ◌+◌, ◌*◌, ◌/◌, ◌%◌, ◌^◌, ◌<◌, max}
use mathlib.Core.Logic.{◌≢◌}
use mathlib.Core.Path.{◌≡◌, refl, sym, ap, ap₂, ◌∙◌}
use mathlib.Core.Bool.{Bool, true, not, ◌&&◌, ◌||◌, or-true, or-false, and-false}
use mathlib.Core.List.{List}
use native.Mathlib.Decide.{ℕ_discrete}
use native.Mathlib.Numerals.{add-one}
use native.Mathlib.Omega.{arith}
use borrow.Author.Tests.{eq-eqb, ne_eqb}
use lib.Bits.{bit_and, bit_or}
use lib.Dec.{eqb}
use lib.ListN.{length, get_or, set, replicate, length-set, length-replicate}
use lib.Pow.{shl_exact}
use lib.Seq.{get_or-set_same, get_or-set_other}
use Rattle.hypercube.specs.Bits.{bit}
use Rattle.hypercube.specs.Lists.{any_below}
use Rattle.hypercube.proofs.Bits.{bit-zero, bit-or, power_one, power_other}
use Rattle.hypercube.proofs.Lists.{zero_at}
use Rattle.record.specs.Says.{says}
use Rattle.loads.specs.Pass.{is_lowest, is_alone, lowest_for, alone_at}
use Rattle.loads.specs.Marks.{is_marked, MarkedIf}

-- ---- one mark

-- a byte in which bit p is set
module _ (b p : ℕ) (small : p < 8) where
  with_bit : (q : ℕ) → bit (bit_or b (1 * 2 ^ p % 256)) q ≡ max (bit b q) (bit (2 ^ p) q)
  with_bit q =
      let e : 1 * 2 ^ p % 256 ≡ 2 ^ p = omega (arith, shl_exact {a = 1} 1 p 8 (omega arith) (omega arith)) in
      ap (λ (z : ℕ). bit (bit_or b z) q) e ∙ bit-or b (2 ^ p) q

  set_there : bit (bit_or b (1 * 2 ^ p % 256)) p ≡ 1
  set_there = omega (arith, with_bit p, power_one p)

  as_before : (q : ℕ) → q ≢ p → bit (bit_or b (1 * 2 ^ p % 256)) q ≡ bit b q
  as_before q d = omega (arith, with_bit q, power_other p q d)

module _ (l : List ℕ) (j : ℕ) (within : j / 8 < length l) where
  pub marked : MarkedIf true j l (set l (j / 8) (bit_or (get_or l (j / 8) 0) (1 * 2 ^ (j % 8) % 256)))
  marked = record { long = length-set l (j / 8) _; marks = λ k. at k (ℕ_discrete (k / 8) (j / 8)) (ℕ_discrete (k % 8) (j % 8)) }
    where
      byte : ℕ
      byte = bit_or (get_or l (j / 8) 0) (1 * 2 ^ (j % 8) % 256)

      other : (k : ℕ) → bit (get_or (set l (j / 8) byte) (k / 8) 0) (k % 8) ≡ bit (get_or l (k / 8) 0) (k % 8) → j ≢ k
          → is_marked (set l (j / 8) byte) k ≡ is_marked l k || eqb j k
      other k e d = ap (λ (v : ℕ). eqb v 1) e ∙ sym (or-false (is_marked l k)) ∙ ap (λ (t : Bool). is_marked l k || t) (sym (ne_eqb j k d))

      in_byte : (k : ℕ) → k / 8 ≡ j / 8 → get_or (set l (j / 8) byte) (k / 8) 0 ≡ byte
      in_byte k e = rw e (get_or-set_same l (j / 8) byte 0 within)

      at : (k : ℕ) → Dec (k / 8 ≡ j / 8) → Dec (k % 8 ≡ j % 8) → is_marked (set l (j / 8) byte) k ≡ is_marked l k || eqb j k
      at k (no d) f =
          other k (ap (λ (v : ℕ). bit v (k % 8)) (get_or-set_other l (j / 8) (k / 8) byte 0 d)) (λ z. d (ap (λ (v : ℕ). v / 8) (sym z)))
      at k (yes e) (no d) =
          other k
          (ap (λ (v : ℕ). bit v (k % 8)) (in_byte k e) ∙ as_before (get_or l (j / 8) 0) (j % 8) (omega arith) (k % 8) d
          ∙ ap (λ (v : ℕ). bit (get_or l v 0) (k % 8)) (sym e)) (λ z. d (ap (λ (v : ℕ). v % 8) (sym z)))
      at k (yes e) (yes f) =
          let same : j ≡ k = omega arith in
          let one : bit (get_or (set l (j / 8) byte) (k / 8) 0) (k % 8) ≡ 1 =
          ap (λ (v : ℕ). bit v (k % 8)) (in_byte k e) ∙ ap (bit byte) f ∙ set_there (get_or l (j / 8) 0) (j % 8) (omega arith) in
          eq-eqb _ _ one ∙ sym (or-true (is_marked l k)) ∙ ap (λ (t : Bool). is_marked l k || t) (sym (eq-eqb j k same))

pub not_marked : (l : List ℕ) (j : ℕ) → eqb (bit (get_or l (j / 8) 0) (j % 8)) 0 ≡ not (is_marked l j)
not_marked l j = go (bit (get_or l (j / 8) 0) (j % 8)) (omega arith)
  where
    go : (v : ℕ) → v < 2 → eqb v 0 ≡ not (eqb v 1)
    go zero h = refl
    go (suc zero) h = refl
    go (suc (suc v)) h = absurd (omega arith)

-- ---- the marks of a record's jobs

-- each job that has a lowest node before x has a mark, and no other
pub record Marks (r : List ℕ) (x : ℕ) (l : List ℕ) : Type 0 where
  pub long : length l ≡ 8192
  pub marks : (j : ℕ) → j ≢ 0 → is_marked l j ≡ any_below (lowest_for r j) x

pub marks_none : (r : List ℕ) → Marks r 0 (replicate 8192 0)
unfolding any_below
marks_none r = record {
  long = length-replicate {A = ℕ} 8192 0;
  marks = λ j d. ap (λ (b : ℕ). eqb (bit b (j % 8)) 1) (zero_at 8192 (j / 8)) ∙ ap (λ (b : ℕ). eqb b 1) (bit-zero (j % 8));
}

module _ {r l : List ℕ} {x h s : ℕ} (M : Marks r x l) (eh : h ≡ (says r).holder x) (es : s ≡ (says r).stars x) where
  pub marks_next : {l' : List ℕ} → MarkedIf (is_lowest h s x) h l l' → Marks r (x + 1) l'
  unfolding any_below
  marks_next m = record {
    long = m.long ∙ M.long;
    marks = λ j d.
        rw (add-one x)
        (m.marks j ∙ ap₂ ◌||◌ (M.marks j d) (held j d (ℕ_discrete h j) ∙ ap₂ (λ (g v : ℕ). eqb (bit_and x v) 0 && eqb g j) eh es));
  }
    where
      held : (j : ℕ) → j ≢ 0 → Dec (h ≡ j) → is_lowest h s x && eqb h j ≡ eqb (bit_and x s) 0 && eqb h j
      held j d (yes e) = rw (ne_eqb h 0 (λ z. d (sym e ∙ z)))
      held j d (no n) = rw (ne_eqb h j n) (and-false (is_lowest h s x) ∙ sym (and-false (eqb (bit_and x s) 0)))

  pub alone_by : {b : Bool} → b ≡ is_alone h s x (is_marked l h) → b ≡ alone_at r x
  alone_by e = e ∙ seen (ℕ_discrete h 0) ∙ ap₂ (λ (g v : ℕ). is_alone g v x (any_below (lowest_for r g) x)) eh es
    where
      seen : Dec (h ≡ 0) → is_alone h s x (is_marked l h) ≡ is_alone h s x (any_below (lowest_for r h) x)
      seen (yes z) = rw (eq-eqb h 0 z)
      seen (no d) = ap (is_alone h s x) (M.marks h d)
