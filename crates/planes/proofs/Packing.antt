-- The flags packed plane by plane. Assumes nothing.
use Prim.Native.Nat.{ℕ, suc, ◌+◌, ◌-◌, ◌*◌, ◌/◌, ◌%◌, ◌^◌, ◌<◌, ◌≤◌}
use mathlib.Core.Logic.{⊎_elim}
use mathlib.Core.Path.{◌≡◌, refl, sym, ap, ◌∙◌}
use mathlib.Core.Bool.{Bool, true, false, cond}
use mathlib.Core.List.{List}
use native.Mathlib.Nat.{pow-succ'}
use native.Mathlib.Omega.{arith}
use lib.Dec.{eqb}
use lib.ListN.{get_or, replicate, length-replicate, get_or-replicate}
use lib.Pow.{pow_mono}
use Rattle.hypercube.specs.Bits.{width, bit}
use Rattle.hypercube.proofs.Bits.{lt_or, bit-suc, ones-zero}
use Rattle.hypercube.proofs.Filled.{Swept}
use Rattle.hypercube.proofs.Halves.{free-node}
use Rattle.runs.specs.Flagged.{flagged}
use Rattle.planes.specs.Planes.{Packed, PackedFrom, Folded}

pub flag_lt : (t : Bool) → ◌<◌ (cond t 1 0) 2
flag_lt true = omega arith
flag_lt false = omega arith

flag_of_lem : (t : Bool) → eqb (cond t 1 0) 1 ≡ t
flag_of_lem true = refl
flag_of_lem false = refl

-- no plane yet
pub packed_none : (fs : List ℕ) → PackedFrom fs 8 (replicate 192 0)
packed_none fs = record {
  long = length-replicate {A = ℕ} 192 0;
  entry = λ e h. rw (get_or-replicate {A = ℕ} 192 e 0 0 (omega arith)) (record { small = omega arith; plane = λ k a b. absurd (omega arith) });
}

-- an entry with its flag of plane j added
abbrev pub added_at : List ℕ → ℕ → List ℕ → ℕ → ℕ
added_at fs j bs e = 2 * get_or bs e 0 + cond (flagged fs (128 * j + e)) 1 0

pub packed_next : (fs : List ℕ) (e j v : ℕ) → j < 8 → Packed fs e (j + 1) v → Packed fs e j (2 * v + cond (flagged fs (128 * j + e)) 1 0)
packed_next fs e j v h P = record {
  small =
      let s : 8 - j ≡ suc (8 - (j + 1)) = omega arith in
      rw (s, pow-succ' 2 (8 - (j + 1))) (omega (arith, P.small, flag_lt t));
  plane = λ k a b. ⊎_elim (λ g. here k (omega arith)) (λ g. above k g b) (lt_or k (j + 1));
}
  where
    t : Bool
    t = flagged fs (128 * j + e)

    w : ℕ
    w = 2 * v + cond t 1 0

    here : (k : ℕ) → k ≡ j → eqb (bit w (k - j)) 1 ≡ flagged fs (128 * k + e)
    here k q =
        let z : k - j ≡ 0 = omega arith in
        let o : bit w 0 ≡ cond t 1 0 = omega (arith, flag_lt t) in
        ap (λ (i : ℕ). eqb (bit w i) 1) z ∙ ap (λ (i : ℕ). eqb i 1) o ∙ flag_of_lem t ∙ ap (λ (i : ℕ). flagged fs (128 * i + e)) (sym q)

    above : (k : ℕ) → j + 1 ≤ k → k < 8 → eqb (bit w (k - j)) 1 ≡ flagged fs (128 * k + e)
    above k g b =
        let s : k - j ≡ suc (k - (j + 1)) = omega arith in
        let half : w / 2 ≡ v = omega (arith, flag_lt t) in
        ap (λ (i : ℕ). eqb (bit w i) 1) s
        ∙ ap (λ (i : ℕ). eqb i 1) (bit-suc w (k - (j + 1)) ∙ ap (λ (i : ℕ). bit i (k - (j + 1))) half)
        ∙ P.plane k g b

-- an entry not yet passed has room for one plane more
pub room : (fs bs l : List ℕ) (j e : ℕ) → j < 8 → e < 128 → PackedFrom fs (j + 1) bs → get_or l e 0 ≡ get_or bs e 0 → get_or l e 0 < 128
room fs bs l j e h b P q = omega (arith, (P.entry e b).small, q, wide)
  where
    wide : 2 ^ (8 - (j + 1)) ≤ 128
    wide = pow_mono {i = 8 - (j + 1)} {j = 7} (omega arith)

-- all entries passed
pub packed_all : (fs bs l : List ℕ) (j : ℕ) → j < 8 → PackedFrom fs (j + 1) bs → Swept (added_at fs j bs) 0 bs 128 l → PackedFrom fs j l
packed_all fs bs l j h P S = record {
  long = S.filled.long ∙ P.long;
  entry = λ e b. rw (S.filled.front e b) (packed_next fs e j (get_or bs e 0) h (P.entry e b));
}

-- all planes
pub packed_folded : (fs bs : List ℕ) → PackedFrom fs 0 bs → Folded (flagged fs) 0 bs
packed_folded fs bs P x h o =
    let e : 128 * (x / 128) + x % 128 ≡ x = omega arith in
    let q : x / 128 ≡ x / 128 - 0 = omega arith in
    ap (λ (i : ℕ). eqb (bit (get_or bs (x % 128) 0) i) 1) q
    ∙ (P.entry (x % 128) (omega arith)).plane (x / 128) (omega arith) (omega arith)
    ∙ ap (flagged fs) e ∙ sym (free-node (flagged fs) width 0 x (ones-zero width))
