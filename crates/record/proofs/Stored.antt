-- A record stored from the front, byte by byte or a part at a time, with the rest left; it is in the end the state's. Assumes nothing.
use Prim.Native.Nat.{ℕ, ◌+◌, ◌*◌, ◌%◌, ◌/◌, ◌-◌, ◌<◌, ◌≤◌}
use mathlib.Core.Logic.{⊎_elim}
use mathlib.Core.Path.{◌≡◌, refl, sym, ap, subst, ◌∙◌}
use mathlib.Core.List.{List, ◌++◌}
use native.Mathlib.Omega.{arith}
use borrow.Author.Count.{below_more}
use borrow.Rule.Slice.PartMut.{put_mid}
use lib.ListN.{length, get_or, set, take, drop, length-set, length-append, length-take, length-drop}
use lib.Seq.{ext_get_or, get_or-set_same, get_or-set_other, get_or-take, get_or-drop}
use Rattle.std.proofs.lemmas.List.{get_or_append_left, length-take-le}
use Rattle.hypercube.specs.Words.{words, put_word}
use Rattle.hypercube.proofs.Lists.{get_d_past}
use Rattle.hypercube.proofs.Bits.{lt_or}
use Rattle.hypercube.proofs.Filled.{filled_none, filled_next}
use Rattle.state.specs.declared.State.{State}
use Rattle.state.proofs.Valid.{Sized}
use Rattle.record.specs.Layout.{record_size, record_kind, map_at, holders_at, encode}
use Rattle.record.specs.Stored.{Begun, Stored, Laid}
use Rattle.record.proofs.Between.{low_at_lem, high_at_lem, byte_between}
use Rattle.record.proofs.Round.{length-encode, encode-map, encode-zero, Says}

module _ {s : State} {r : List ℕ} where
  -- what stands there before a loop
  pub stored_from : {i : ℕ} → Begun s i r → Stored s r i r
  stored_from b = record { begun = b; rest = λ k g. refl }

  pub stored_none : length r ≡ record_size → Stored s r 0 r
  stored_none e = stored_from (filled_none e)

  pub stored_next : {i : ℕ} {l : List ℕ} (v : ℕ) → Stored s r i l → i < record_size → v ≡ get_or (encode s) i 0 → Stored s r (i + 1) (set l i v)
  stored_next {i} {l} v p h e = record {
    begun = filled_next v p.begun h e;
    rest = λ k g. get_or-set_other l i k v 0 (omega arith) ∙ p.rest k (omega arith);
  }

  -- k bytes at once
  pub stored_part : {i : ℕ} {l : List ℕ} (k : ℕ) (ys : List ℕ) → Stored s r i l → length ys ≡ k → i + k ≤ record_size
      → ((j : ℕ) → j < k → get_or ys j 0 ≡ get_or (encode s) (i + j) 0) → Stored s r (i + k) (put_mid i k l ys)
  stored_part {i} {l} k ys p e fits given =
      let front : length (take i l) ≡ i = length-take-le i l (omega (arith, p.begun.long)) in
      let after : List ℕ = drop k (drop i l) in
      record {
        begun = record {
          long = simp (length-append, length-take, length-drop) (omega (arith, p.begun.long));
          front = λ j h.
              ⊎_elim
              (λ (b : j < i). get_or_append_left (take i l) (ys ++ after) 0 j (omega arith) ∙ get_or-take i l j 0 b ∙ p.begun.front j b)
              (λ (a : i ≤ j).
              byte_between (take i l) after i front ys (j - i) j (omega arith) (omega arith)
              ∙ given (j - i) (omega arith)
              ∙ ap (λ (x : ℕ). get_or (encode s) x 0) (omega arith))
              (lt_or j i);
        };
        rest = λ j g.
            get_d_past (take i l) (ys ++ after) 0 (j - i) j (omega arith)
            ∙ get_d_past ys after 0 (j - i - k) (j - i) (omega arith)
            ∙ get_or-drop k (drop i l) (j - i - k) 0
            ∙ get_or-drop i l (k + (j - i - k)) 0
            ∙ ap (λ (x : ℕ). get_or l x 0) (omega arith)
            ∙ p.rest j (omega arith);
      }

-- the head: two words, n, the map, and the zero byte
pub head_stored : {s : State} {r a b m : List ℕ} → Sized s → length r ≡ record_size → a ≡ put_word r 0 record_size → b ≡ put_word a 2 record_kind
    → m ≡ s.map → Stored s r holders_at (set (put_mid map_at 10 (set b 4 s.n) m) 15 0)
unfolding encode
head_stored {s} {r} {a} {b} {m} z long e d f =
    let h0 : Stored s r 0 r = stored_none long in
    let h2 = stored_next (record_size / 256) (stored_next (record_size % 256) h0 (omega arith) refl) (omega arith) refl in
    let h4 = stored_next 0 (stored_next record_kind h2 (omega arith) refl) (omega arith) refl in
    let h5 = stored_next s.n h4 (omega arith) refl in
    let h15 = stored_part 10 s.map h5 z.directions (omega arith) (λ j h. sym (encode-map s z j h)) in
    rw (f, d, e) (stored_next 0 h15 (omega arith) (sym (encode-zero s z)))

pub stored_all : {s : State} {l : List ℕ} → Sized s → Begun s record_size l → l ≡ encode s
stored_all {s} {l} z p = ext_get_or 0 l (encode s) (p.long ∙ sym (length-encode s z)) (λ k h. p.front k (omega (arith, p.long)))

-- ---- bytes laid from a place on

module _ {bs : List ℕ} {at : ℕ} {r : List ℕ} where
  pub laid_none : Laid bs at 0 r r
  laid_none = record { long = refl; before = λ k h. refl; laid = λ k h. absurd (omega arith); rest = λ k g. refl }

  pub laid_next : {i : ℕ} {l : List ℕ} (j v : ℕ) → Laid bs at i r l → at + i ≡ j → j < length r → v ≡ get_or bs i 0 → Laid bs at (i + 1) r (set l j v)
  laid_next {i} {l} j v p at_j h e = record {
    long = length-set l j v ∙ p.long;
    before = λ k b. get_or-set_other l j k v 0 (omega arith) ∙ p.before k b;
    laid = below_more (λ k. get_or (set l j v) (at + k) 0 ≡ get_or bs k 0) i
        (λ k q. get_or-set_other l j (at + k) v 0 (λ s. omega arith) ∙ p.laid k q)
        (subst (λ (k : ℕ). get_or (set l j v) k 0 ≡ get_or bs i 0) (sym at_j) (get_or-set_same l j v 0 (omega (arith, p.long)) ∙ e));
    rest = λ k g. get_or-set_other l j k v 0 (omega arith) ∙ p.rest k (omega arith);
  }

  -- the same place, written another way
  pub laid_to : {i : ℕ} {l : List ℕ} (j : ℕ) → Laid bs at i r l → i ≡ j → Laid bs at j r l
  laid_to {i} {l} j p e = subst (λ (k : ℕ). Laid bs at k r l) e p

-- two bytes more: those of number i
pub laid_word : (ns : List ℕ) (i : ℕ) {at : ℕ} {r l : List ℕ} → Laid (words ns) at (2 * i) r l → i < length ns
    → at + 2 * length ns ≤ length r → Laid (words ns) at (2 * (i + 1)) r (put_word l (at + 2 * i) (get_or ns i 0))
laid_word ns i {at} p h fits =
    let low = laid_next (at + 2 * i) (get_or ns i 0 % 256) p refl (omega arith) (sym (low_at_lem ns i h)) in
    laid_to (2 * (i + 1)) (laid_next (at + 2 * i + 1) (get_or ns i 0 / 256) low (omega arith) (omega arith) (sym (high_at_lem ns i h))) (omega arith)

-- a state's record stored up to the words l, and these laid
pub begun_laid : (s : State) (at : ℕ) (l : List ℕ) {r r' : List ℕ} → Says (encode s) at l → Begun s at r → Laid (words l) at (2 * length l) r r'
    → Begun s (at + 2048) r'
begun_laid s at l {r} {r'} S b p = record {
  long = p.long ∙ b.long;
  front = λ k h.
      ⊎_elim (λ (a : k < at). p.before k a ∙ b.front k a)
      (λ (a : at ≤ k).
      let e : at + (k - at) ≡ k = omega arith in
      subst (λ (j : ℕ). get_or r' j 0 ≡ get_or (words l) (k - at) 0) e (p.laid (k - at) (omega (arith, S.entries)))
      ∙ sym (S.byte (k - at) k (omega arith) e))
      (lt_or k at);
}
