-- The test that both tables of the Gray code pass, and the lemma that turns it into the rule at each entry. Assumes nothing.
use Prim.Native.Nat.{ℕ, ◌+◌, ◌<◌}
use mathlib.Core.Path.{◌≡◌, refl, sym, ap, ap₂, ◌∙◌}
use mathlib.Core.Bool.{Bool, true, false, ◌&&◌, false≢true}
use mathlib.Core.List.{List, [], ◌∷◌, map}
use lib.Dec.{eqb, ltb}
use lib.ListN.{length}
use Rattle.hypercube.specs.Lists.{over, from}
use Rattle.hypercube.specs.Bits.{width}
use Rattle.hypercube.specs.Gray.{G, position}
use Rattle.hypercube.specs.Tests.{means_true, means_eq, means_lt, means_and}
use Rattle.hypercube.proofs.GrayCode.{position-G}
use Rattle.gray.specs.declared.GrayCode.{GrayCode}
use Rattle.gray.specs.Tables.{first_labels, label_table, position_table, gray_code}

-- both tables in step, from place b on: l is the label at position b, and p, a number of ten bits, the position whose label is b
unfoldable pub tested : ℕ → List ℕ → List ℕ → Bool
tested b [] [] = true
tested b [] (p ∷ ps) = false
tested b (l ∷ ls) [] = false
tested b (l ∷ ls) (p ∷ ps) = eqb l (G b) && (ltb p 1024 && (eqb (G p) b && tested (b + 1) ls ps))

-- the one lemma: from place b on, the labels are by Gray's rule and the positions by its inverse
by_rule : (b : ℕ) (ls ps : List ℕ) → tested b ls ps ≡ true
    → (ls ≡ map G (from b (length ls))) × (ps ≡ map position (from b (length ls)))
unfolding tested over
by_rule b [] [] t = (refl, refl)
by_rule b [] (p ∷ ps) t = absurd (false≢true t)
by_rule b (l ∷ ls) [] t = absurd (false≢true t)
by_rule b (l ∷ ls) (p ∷ ps) t =
    let r = (means_and (means_eq l (G b)) (means_and (means_lt p 1024) (means_and (means_eq (G p) b) means_true))).holds t in
    let below : p < 1024 = r.1.0 in
    let undone : p ≡ position b = sym (position-G width p below) ∙ ap position r.1.1.0 in
    let rest = by_rule (b + 1) ls ps r.1.1.1 in
    (ap₂ ◌∷◌ r.0 rest.0, ap₂ ◌∷◌ undone rest.1)

-- tables of 1024 entries that pass it are the code's
pub passed : (ls ps : List ℕ) → length ls ≡ 1024 → tested 0 ls ps ≡ true
    → ◌≡◌ {A = GrayCode} (record { labels = ls; positions = ps }) gray_code
unfolding label_table position_table
passed ls ps e t =
    let r = by_rule 0 ls ps t in
    ap₂ (λ (a b : List ℕ). record { labels = a; positions = b })
    (r.0 ∙ ap first_labels e)
    (r.1 ∙ ap (λ (c : ℕ). map position (from 0 c)) e)
