-- The parts of a state with a word for each node, put anew, and their places in a record. Assumes nothing.
use Prim.Native.Nat.{ℕ, ◌+◌, ◌*◌, ◌<◌, ◌≤◌}
use mathlib.Core.Path.{◌≡◌, refl, sym, ap, ◌∙◌}
use mathlib.Core.Logic.{inl, inr}
use mathlib.Core.Bool.{Bool, true, false, cond}
use mathlib.Core.List.{List}
use native.Mathlib.Omega.{arith}
use lib.Dec.{eqb}
use lib.ListN.{length, get_or}
use Rattle.hypercube.specs.Words.{word}
use Rattle.state.specs.declared.State.{State}
use Rattle.state.specs.States.{with_holders, with_stars}
use Rattle.state.proofs.Valid.{Sized}
use Rattle.record.specs.Layout.{holders_at, record_size, encode, decode, Encoded}
use Rattle.record.proofs.Round.{decode_holder, decode_star, decode-encode}
use Rattle.nodes.specs.Words.{Words, words_of, with_words}

-- the laws of a part with a word for each node, the holders where b, else the star bits
module _ (s : State) (l : List ℕ) where
  abbrev pub put-words : Bool → State
  put-words b = cond b (with_holders s l) (with_stars s l)

  pub got_words : (b : Bool) → cond b (put-words b).holders (put-words b).stars ≡ l
  got_words true = refl
  got_words false = refl

  pub words_again : (b : Bool) (m : List ℕ)
      → cond b (with_holders (put-words b) m) (with_stars (put-words b) m) ≡ cond b (with_holders s m) (with_stars s m)
  words_again true m = refl
  words_again false m = refl

  pub sized-words : (b : Bool) → Sized s → length l ≡ 1024 → Sized (put-words b)
  sized-words true z e = record { directions = z.directions; holders = e; conditions = z.conditions; stars = z.stars }
  sized-words false z e = record { directions = z.directions; holders = z.holders; conditions = z.conditions; stars = e }

  -- where its words are what they were, so are the holders
  pub holder_kept : (b : Bool) (i : ℕ) → get_or l i 0 ≡ get_or (cond b s.holders s.stars) i 0
      → get_or (put-words b).holders i 0 ≡ get_or s.holders i 0
  holder_kept true i e = e
  holder_kept false i e = refl

pub kept_words : (s : State) (b : Bool) → put-words s (cond b s.holders s.stars) b ≡ s
kept_words s true = refl
kept_words s false = refl

pub words_long : (s : State) (b : Bool) → Sized s → length (cond b s.holders s.stars) ≡ 1024
words_long s true z = z.holders
words_long s false z = z.stars

pub words_entries : (at : ℕ) (s : State) → Sized s → length (words_of at s) ≡ 1024
words_entries at s z = words_long s (eqb at holders_at) z

-- they lie in the record
pub words_end : (at : ℕ) → Words at → at + 2048 ≤ record_size
words_end at (inl e) = omega arith
words_end at (inr e) = omega arith

-- the words of a record, read at their place
pub words_read : (at : ℕ) → Words at → (r : List ℕ) (x : ℕ) → x < 1024 → get_or (words_of at (decode r)) x 0 ≡ word r (at + 2 * x)
words_read at (inl e) r = rw e (decode_holder r)
words_read at (inr e) r = rw e (decode_star r)

-- a record that was stored with other words
module _ (at : ℕ) (s : State) (z : Sized s) (l : List ℕ) (e : length l ≡ 1024) {r : List ℕ} (says : r ≡ encode (with_words at s l)) where
  pub decode-words : decode r ≡ with_words at s l
  decode-words = ap decode says ∙ decode-encode (with_words at s l) (sized-words s l (eqb at holders_at) z e)

  pub words_encoded : Encoded r
  words_encoded = ap encode decode-words ∙ sym says
