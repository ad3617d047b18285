-- An input that doesn't begin with a right set-up: the number of its refusal, the line and the counts. Assumes nothing.
use Prim.Native.Nat.{ℕ, ◌+◌, ◌<◌, ◌≤◌}
use mathlib.Core.Path.{◌≡◌, sym, ◌∙◌}
use mathlib.Core.Logic.{◌≢◌}
use mathlib.Core.Bool.{true}
use mathlib.Core.List.{List, ◌++◌}
use native.Mathlib.Omega.{arith}
use borrow.Author.Tests.{eq-eqb, ne_eqb, lt-leb, ltb-true, ltb-false}
use lib.Dec.{ltb}
use lib.ListN.{length, take}
use lib.Seq.{length-take-le, get_or-take}
use Rattle.hypercube.specs.Words.{word}
use Rattle.hypercube.specs.Tests.{cases}
use Rattle.tally.specs.declared.Outcome.TheVariants.{Refused}
use Rattle.tally.specs.Counts.{none, counted}
use Rattle.lines.specs.Text.{totals_of}
use Rattle.record.specs.Layout.{record_size}
use Rattle.cube.specs.Called.{setup_number}
use Rattle.frame_log.specs.declared.Next.TheVariants as next
use Rattle.frame_log.specs.Next.{next_of}
use Rattle.frame_log.specs.Frames.{first_number}
use Rattle.frame_log.specs.Steps.{on_frame, step_of}
use Rattle.frame_log.proofs.Nexts.{next_lone, next_under, next_past, next_whole}
use Rattle.frame_log.proofs.Firsts.{first_kind, first_size, set_up}
use Rattle.log_text.specs.Text.{line_after, Prints, stops}
use Rattle.log_text.specs.Right.{WholeFirst, Wrong, lone, under, past, kind, size, dimension}

pub word-take : (k : ℕ) (l : List ℕ) (i : ℕ) → i + 1 < k → word (take k l) i ≡ word l i
unfolding word
word-take k l i h = rw (get_or-take k l i 0 (omega arith), get_or-take k l (i + 1) 0 h)

module _ (b : List ℕ) (whole : length b ≡ record_size) (l : List ℕ) where
  abbrev Refuses : ℕ → Type 0
  Refuses m = Prints none b l (line_after none (Refused m 0) ++ totals_of (counted none (Refused m 0)))

  -- no whole frame
  broken : next_of true 0 l ≡ next.Broken → Refuses 3
  unfolding step_of
  broken e = stops none b l (Refused 3 0) (rw e)

  under_4 : 1 < length l → word l 0 < 4 → Refuses 3
  under_4 two h = broken (next_under true 0 l two h)

  -- a whole frame
  module _ (W : WholeFirst l) where
    abbrev f : List ℕ
    f = take (word l 0) l

    long : length f ≡ word l 0
    long = length-take-le (word l 0) l W.1

    four : 4 ≤ length f
    four = omega (arith, long, W.0)

    right : word f 0 ≡ length f
    right = word-take (word l 0) l 0 (omega (arith, W.0)) ∙ sym long

    its_kind : word f 2 ≡ word l 2
    its_kind = word-take (word l 0) l 2 (omega (arith, W.0))

    refuses : (m : ℕ) → m ≢ 0 → m ≡ first_number b f → Refuses m
    unfolding step_of on_frame
    refuses m z e =
        stops none b l (Refused m 0) (rw (next_whole true 0 l (omega (arith, W.0, W.1)) W.0 W.1, ← e, ne_eqb m 0 z))

    above_10 : word l 2 ≡ 0x0301 → word l 0 ≡ 6 → 10 < word l 4 → 7 ≡ first_number b f
    unfolding setup_number
    above_10 k s h =
        sym
        (set_up b f four right (its_kind ∙ k) (long ∙ s)
        ∙ rw (eq-eqb (length b) record_size whole, word-take (word l 0) l 4 (omega arith), lt-leb (word l 4) 10 h))

pub wrong_first : (b : List ℕ) → length b ≡ record_size → (l : List ℕ) (m : ℕ) → Wrong l m
    → Prints none b l (line_after none (Refused m 0) ++ totals_of (counted none (Refused m 0)))
wrong_first b whole l m (lone h) = broken b whole l (next_lone true 0 l h)
wrong_first b whole l m (under two h) = under_4 b whole l two h
wrong_first b whole l m (past two h) =
    cases (ltb (word l 0) 4) (λ a. under_4 b whole l two (ltb-true (word l 0) 4 a))
    (λ a. broken b whole l (next_past true 0 l two (ltb-false (word l 0) 4 a) h))
wrong_first b whole l m (kind W k) =
    refuses b whole l W 4 (λ e. omega arith)
    (first_kind b (f b whole l W) (four b whole l W) (right b whole l W) (λ e. k (sym (its_kind b whole l W) ∙ e))).0
wrong_first b whole l m (size W k s) =
    refuses b whole l W 5 (λ e. omega arith)
    (first_size b (f b whole l W) (four b whole l W) (right b whole l W) (its_kind b whole l W ∙ k) (λ e. s (sym (long b whole l W) ∙ e))).0
wrong_first b whole l m (dimension W k s h) = refuses b whole l W 7 (λ e. omega arith) (above_10 b whole l W k s h)
