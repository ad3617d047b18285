-- The words at a place of a record that a loop changes, one after the other. Assumes nothing.
use Prim.Native.Nat.{ℕ, ◌+◌, ◌*◌, ◌<◌, ◌≤◌}
use mathlib.Core.Path.{◌≡◌, sym, ap, ◌∙◌}
use mathlib.Core.List.{List, map}
use native.Mathlib.Omega.{arith}
use lib.Dec.{eqb}
use lib.ListN.{length, get_or, set}
use Rattle.hypercube.proofs.Filled.{Swept, swept_none, swept_put, swept_all}
use Rattle.hypercube.specs.Lists.{from}
use Rattle.hypercube.proofs.Lists.{length_of, get_or_each}
use Rattle.hypercube.specs.Words.{word}
use Rattle.state.specs.declared.State.{State}
use Rattle.state.proofs.Valid.{Sized}
use Rattle.record.specs.Layout.{holders_at, encode, decode, Encoded}
use Rattle.record.proofs.Round.{decode_holder}
use Rattle.nodes.specs.Words.{Words, words_of, with_words}
use Rattle.nodes.proofs.Parts.{got_words, words_again, kept_words, holder_kept, words_read, words_entries, decode-words}

-- r is the record of s with the words at that place so far
pub record Sweeping (at : ℕ) (s : State) (f : ℕ → ℕ) (i : ℕ) (r : List ℕ) : Type 0 where
  pub entries : List ℕ
  pub swept : Swept f 0 (words_of at s) i entries
  pub says : r ≡ encode (with_words at s entries)

module _ {at : ℕ} {f : ℕ → ℕ} {i : ℕ} {r : List ℕ} where
  pub sweeping_none : Encoded r → ((k : ℕ) → k < i → get_or (words_of at (decode r)) k 0 ≡ f k) → Sweeping at (decode r) f i r
  sweeping_none e h = record {
    entries = words_of at (decode r);
    swept = swept_none h;
    says = sym (ap encode (kept_words (decode r) (eqb at holders_at)) ∙ e);
  }

  module _ {s : State} (z : Sized s) (W : Sweeping at s f i r) where
    abbrev so_far : State
    so_far = with_words at s W.entries

    said : decode r ≡ so_far
    said = decode-words at s z W.entries (W.swept.filled.long ∙ words_entries at s z) W.says

    pub sweeping_encoded : Encoded r
    sweeping_encoded = ap encode said ∙ sym W.says

    -- the word i was put
    pub sweeping_put : {v : ℕ} {r' : List ℕ} → r' ≡ encode (with_words at (decode r) (set (words_of at (decode r)) i v)) → i < 1024 → v ≡ f i
        → Sweeping at s f (i + 1) r'
    sweeping_put {v} {r'} e h q = record {
      entries = set W.entries i v;
      swept = swept_put v W.swept (omega (arith, words_entries at s z)) q;
      says = e ∙ ap (λ (t : State). encode (with_words at t (set (words_of at t) i v))) said
          ∙ ap (λ (l : List ℕ). encode (with_words at so_far (set l i v))) (got_words s W.entries (eqb at holders_at))
          ∙ ap encode (words_again s W.entries (eqb at holders_at) (set W.entries i v));
    }

    -- node k's word is f k of all nodes in the end
    pub sweeping_all : ((k : ℕ) → i ≤ k → k < 1024 → get_or (words_of at s) k 0 ≡ f k) → r ≡ encode (with_words at s (map f (from 0 1024)))
    sweeping_all h =
        let e : length (words_of at s) ≡ 1024 = words_entries at s z in
        let meant : (k : ℕ) → k < length (words_of at s) → get_or (map f (from 0 1024)) k 0 ≡ f k =
        λ k b. get_or_each f 0 1024 k (omega arith) in
        W.says
        ∙ ap (λ (l : List ℕ). encode (with_words at s l)) (swept_all (map f (from 0 1024)) W.swept (length_of f 0 1024 ∙ sym e)
        (λ k b. meant k) (λ k g b. h k g (omega arith) ∙ sym (meant k b)))

-- the words at a place, one after the other: the next one, and its node's holder, are as they were
module _ (at : ℕ) {s : State} {f : ℕ → ℕ} {i : ℕ} {r : List ℕ} (z : Sized s) (W : Sweeping at s f i r) (h : i < 1024) where
  pub word_next : Words at → word r (at + 2 * i) ≡ get_or (words_of at s) i 0
  word_next w =
      sym (words_read at w r i h) ∙ ap (λ (t : State). get_or (words_of at t) i 0) (said z W)
      ∙ ap (λ (l : List ℕ). get_or l i 0) (got_words s W.entries (eqb at holders_at)) ∙ W.swept.rest i (omega arith)

  pub holder_next : word r (holders_at + 2 * i) ≡ get_or s.holders i 0
  holder_next =
      sym (decode_holder r i h) ∙ ap (λ (t : State). get_or t.holders i 0) (said z W)
      ∙ holder_kept s W.entries (eqb at holders_at) i (W.swept.rest i (omega arith))
