-- What the input has next, by the bytes that are there; and that no answer but 'more' changes when more is read. Assumes nothing.
use Prim.Native.Nat.{ℕ, ◌+◌, ◌<◌, ◌≤◌}
use mathlib.Core.Path.{◌≡◌, sym, ap, ◌∙◌}
use mathlib.Core.Logic.{◌≢◌}
use mathlib.Core.Bool.{Bool, true, false, cond}
use mathlib.Core.List.{List, ◌++◌}
use native.Mathlib.Omega.{arith}
use borrow.Author.Tests.{ltb-true, ltb-false, lt-ltb, le-ltb}
use lib.Dec.{ltb}
use lib.ListN.{length, drop, length-append, get_or-append}
use lib.Seq.{get_or-drop}
use Rattle.hypercube.specs.Tests.{cases}
use Rattle.hypercube.specs.Words.{word}
use Rattle.frame_log.specs.declared.Next.{Next}
use Rattle.frame_log.specs.declared.Next.TheVariants.{Frame, More, End, Broken}
use Rattle.frame_log.specs.declared.Cursor.{Cursor}
use Rattle.frame_log.specs.Next.{next_of}

pub word-drop : (w : List ℕ) (at : ℕ) → word (drop at w) 0 ≡ word w at
unfolding word
word-drop w at = let z : at + 0 ≡ at = omega arith in rw (get_or-drop, get_or-drop, z)

pub word_append : (l more : List ℕ) → 1 < length l → word (l ++ more) 0 ≡ word l 0
unfolding word
word_append l more h = rw (get_or-append l more 0 0 (omega arith), get_or-append l more 0 1 h)

-- ---- the five cases

pub data Case (l : List ℕ) : Type 0 where
  none : length l ≡ 0 → Case l
  lone : length l ≡ 1 → Case l
  under : 1 < length l → word l 0 < 4 → Case l
  past : 1 < length l → 4 ≤ word l 0 → length l < word l 0 → Case l
  whole : 1 < length l → 4 ≤ word l 0 → word l 0 ≤ length l → Case l

pub case : (l : List ℕ) → Case l
case l =
    cases (ltb 0 (length l)) (λ a.
    cases (ltb 1 (length l)) (λ b.
    let two : 1 < length l = ltb-true 1 (length l) b in
    cases (ltb (word l 0) 4) (λ d. under two (ltb-true (word l 0) 4 d)) (λ d.
    let four : 4 ≤ word l 0 = ltb-false (word l 0) 4 d in
    cases (ltb (length l) (word l 0)) (λ e. past two four (ltb-true (length l) (word l 0) e))
    (λ e. whole two four (ltb-false (length l) (word l 0) e))
    )
    ) (λ b. lone (omega (arith, ltb-true 0 (length l) a, ltb-false 1 (length l) b)))
    ) (λ a. none (omega (arith, ltb-false 0 (length l) a)))

module _ (last : Bool) (at : ℕ) (l : List ℕ) where
  pub next_none : length l ≡ 0 → next_of last at l ≡ cond last End More
  unfolding next_of
  next_none h = rw (le-ltb 0 (length l) (omega arith))

  pub next_lone : length l ≡ 1 → next_of last at l ≡ cond last Broken More
  unfolding next_of
  next_lone h = rw (lt-ltb 0 (length l) (omega arith), le-ltb 1 (length l) (omega arith))

  module _ (two : 1 < length l) where
    pub next_under : word l 0 < 4 → next_of last at l ≡ Broken
    unfolding next_of
    next_under h = rw (lt-ltb 0 (length l) (omega arith), lt-ltb 1 (length l) two, lt-ltb (word l 0) 4 h)

    pub next_past : 4 ≤ word l 0 → length l < word l 0 → next_of last at l ≡ cond last Broken More
    unfolding next_of
    next_past four h = rw (lt-ltb 0 (length l) (omega arith), lt-ltb 1 (length l) two, le-ltb (word l 0) 4 four, lt-ltb (length l) (word l 0) h)

    pub next_whole : 4 ≤ word l 0 → word l 0 ≤ length l → next_of last at l ≡ Frame (record { at = at + word l 0 })
    unfolding next_of
    next_whole four h = rw (lt-ltb 0 (length l) (omega arith), lt-ltb 1 (length l) two, le-ltb (word l 0) 4 four, le-ltb (length l) (word l 0) h)

-- a frame is whole, and ends where the cursor stands
pub record Framed (at : ℕ) (l : List ℕ) (c : Cursor) : Type 0 where
  pub two : 1 < length l
  pub four : 4 ≤ word l 0
  pub there : word l 0 ≤ length l
  pub ends : c.at ≡ at + word l 0

no_frame : {A : Type 0} (b : Bool) {x y : Next} {c : Cursor} → (Frame c ≡ x → A) → (Frame c ≡ y → A) → Frame c ≡ cond b x y → A
no_frame true f g e = f e
no_frame false f g e = g e

pub framed : (last : Bool) (at : ℕ) (l : List ℕ) (c : Cursor) → Frame c ≡ next_of last at l → Framed at l c
framed last at l c e = go (case l)
  where
    never : {A : Type 0} (x : Next) → (Frame c ≡ x → ◌≡◌ {A = ℕ} 0 1) → Frame c ≡ x → A
    never x f p = absurd (omega (arith, f p))

    go : Case l → Framed at l c
    go (none h) = no_frame last (never End (λ p. cc)) (never More (λ p. cc)) (e ∙ next_none last at l h)
    go (lone h) = no_frame last (never Broken (λ p. cc)) (never More (λ p. cc)) (e ∙ next_lone last at l h)
    go (under t h) = never Broken (λ p. cc) (e ∙ next_under last at l t h)
    go (past t f h) = no_frame last (never Broken (λ p. cc)) (never More (λ p. cc)) (e ∙ next_past last at l t f h)
    go (whole t f h) =
        let q : Frame c ≡ Frame (record { at = at + word l 0 }) = e ∙ next_whole last at l t f h in
        let k : c ≡ record { at = at + word l 0 } = cc in
        record { two = t; four = f; there = h; ends = ap (λ (d : Cursor). d.at) k }

-- what was answered before the input's end is answered the same when more bytes were read, whether the input then ends or not
pub stays : (last : Bool) (at : ℕ) (l more : List ℕ) → next_of false at l ≢ More → next_of last at (l ++ more) ≡ next_of false at l
stays last at l more n = go (case l)
  where
    longer : length (l ++ more) ≡ length l + length more
    longer = length-append l more

    go : Case l → next_of last at (l ++ more) ≡ next_of false at l
    go (none h) = absurd (n (next_none false at l h))
    go (lone h) = absurd (n (next_lone false at l h))
    go (under t h) =
        next_under last at (l ++ more) (omega (arith, longer)) (rw (word_append l more t) h) ∙ sym (next_under false at l t h)
    go (past t f h) = absurd (n (next_past false at l t f h))
    go (whole t f h) =
        next_whole last at (l ++ more) (omega (arith, longer)) (rw (word_append l more t) f) (rw (word_append l more t) (omega (arith, longer)))
        ∙ rw (word_append l more t) (sym (next_whole false at l t f h))
