-- Numbers written as words in the place of a buffer's first bytes. Assumes nothing.
use Prim.Native.Nat.{ℕ, zero, suc, ◌+◌, ◌*◌, ◌-◌, ◌<◌, ◌≤◌}
use mathlib.Core.Logic.{⊎_elim}
use mathlib.Core.Path.{◌≡◌, sym, ap, ◌∙◌}
use mathlib.Core.List.{List, [], ◌∷◌, ◌++◌}
use native.Mathlib.Omega.{arith}
use lib.ListN.{length, get_or, drop, length-append, length-drop, get_or-append}
use lib.Seq.{ext_get_or, get_or-drop}
use Rattle.hypercube.specs.Words.{word, words}
use Rattle.hypercube.specs.Replies.{fields, frame_of, written}
use Rattle.hypercube.specs.declared.Reply.{Reply}
use Rattle.hypercube.proofs.Bits.{lt_or}
use Rattle.hypercube.proofs.Lists.{get_d_past}
use Rattle.record.specs.Stored.{Laid}
use Rattle.record.proofs.Between.{length-words}

-- the numbers are read back
pub word-words : (xs rest : List ℕ) (i : ℕ) → i < length xs → word (words xs ++ rest) (2 * i) ≡ get_or xs i 0
unfolding words word
word-words [] rest i h = absurd (omega arith)
word-words (x ∷ xs) rest zero h = omega arith
word-words (x ∷ xs) rest (suc i) h =
    let t : 2 * suc i ≡ suc (suc (2 * i)) = omega arith in
    let a : suc (suc (2 * i)) + 1 ≡ suc (suc (2 * i + 1)) = omega arith in
    rw (t, a) (word-words xs rest i (omega arith))

-- bytes laid over the first are written there
laid_all : (bs p q : List ℕ) (n : ℕ) → Laid bs 0 n p q → length bs ≡ n → n ≤ length p → q ≡ written bs p
laid_all bs p q n h e fits =
    ext_get_or 0 q (written bs p) (h.long ∙ sym whole) (λ k b. ⊎_elim (λ (l : k < n).
    let z : 0 + k ≡ k = omega arith in rw z at (h.laid k l) ∙ sym (get_or-append bs rest 0 k (omega arith)))
    (λ (g : n ≤ k).
    h.rest k (omega arith)
    ∙ ap (λ (i : ℕ). get_or p i 0) (omega arith)
    ∙ sym (get_or-drop (length bs) p (k - n) 0)
    ∙ sym (get_d_past bs rest 0 (k - n) k (omega arith)))
    (lt_or k n))
  where
    rest : List ℕ
    rest = drop (length bs) p

    whole : length (written bs p) ≡ length p
    whole = simp (length-append, length-drop) (omega arith)

-- the reply r is u, and the words of u's fields are laid over the first bytes
pub answered : (r u : Reply) (p q : List ℕ) → r ≡ u → Laid (words (fields u)) 0 (2 * length (fields u)) p q → 2 * length (fields u) ≤ length p
    → q ≡ written (frame_of r) p
unfolding frame_of
answered r u p q e h fits = rw e (laid_all (words (fields u)) p q (2 * length (fields u)) h (length-words (fields u)) fits)
