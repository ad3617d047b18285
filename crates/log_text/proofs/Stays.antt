-- A step that doesn't ask for more does the same on the whole input. Assumes nothing.
use Prim.Native.Nat.{ℕ, ◌+◌, ◌-◌}
use mathlib.Core.Path.{◌≡◌, refl, ◌∙◌}
use mathlib.Core.Logic.{◌≢◌}
use mathlib.Core.Bool.{Bool, true, false, cond}
use mathlib.Core.List.{List, [], ◌++◌, append-nil}
use native.Mathlib.Omega.{arith}
use lib.Dec.{eqb}
use lib.ListN.{length, take, length-append}
use lib.Seq.{take-append-le}
use Rattle.hypercube.specs.Tests.{cases}
use Rattle.hypercube.specs.Words.{word}
use Rattle.frame_log.specs.declared.Next.{Next}
use Rattle.frame_log.specs.declared.Next.TheVariants as next
use Rattle.frame_log.specs.declared.Step.{Step}
use Rattle.frame_log.specs.declared.Step.TheVariants.{Line, Last, More, End}
use Rattle.frame_log.specs.Next.{next_of}
use Rattle.frame_log.specs.Frames.{first_number}
use Rattle.frame_log.specs.Steps.{on_frame, step_by, record_by, step_of, step_record}
use Rattle.frame_log.proofs.Nexts.{Case, none, lone, under, past, whole, case, word_append, next_none, next_lone, next_under, next_past, next_whole}

-- a step whose cursor counts from `at` on
abbrev pub moved : ℕ → Step → Step
moved at (Line o c) = Line o (record { at = c.at - at })
moved at (Last o) = Last o
moved at More = More
moved at End = End

module _ (lines : ℕ) (r f : List ℕ) (at size : ℕ) where
  -- the cursor is passed on
  frame_moved : on_frame lines r f (record { at = 0 + size }) ≡ moved at (on_frame lines r f (record { at = at + size }))
  unfolding on_frame
  frame_moved =
      let e : at + size - at ≡ 0 + size = omega arith in
      cases (eqb lines 0) (λ a. cases (eqb (first_number r f) 0) (λ b. rw (a, b, e)) (λ b. rw (a, b))) (λ a. rw (a, e))

module _ (lines : ℕ) (r : List ℕ) (last : Bool) (at : ℕ) (l more : List ℕ) (end : last ≡ true → more ≡ []) where
  abbrev Same : Type 0
  Same =
      (step_of lines r true 0 (l ++ more) ≡ moved at (step_of lines r last at l)) ×
      (step_record lines r true 0 (l ++ more) ≡ step_record lines r last at l)

  -- by what each has next
  both : (n n₀ : Next) → eqb lines 4294967295 ≡ false → next_of last at l ≡ n → next_of true 0 (l ++ more) ≡ n₀
      → step_by lines r (take (word (l ++ more) 0) (l ++ more)) n₀ ≡ moved at (step_by lines r (take (word l 0) l) n)
      → record_by lines r (take (word (l ++ more) 0) (l ++ more)) n₀ ≡ record_by lines r (take (word l 0) l) n → Same
  unfolding step_of step_record
  both n n₀ t a b s q = (rw (t, a, b) s, rw (t, a, b) q)

  asks : eqb lines 4294967295 ≡ false → next_of last at l ≡ next.More → step_of lines r last at l ≡ More
  unfolding step_of
  asks t a = rw (t, a)

  module _ (t : eqb lines 4294967295 ≡ false) (n : step_of lines r last at l ≢ More) where
    -- what is no whole frame: the input ends there
    unfinished : (x : Next) → ((f g : List ℕ) → step_by lines r f x ≡ moved at (step_by lines r g x))
        → ((f g : List ℕ) → record_by lines r f x ≡ record_by lines r g x)
        → next_of last at l ≡ cond last x next.More → next_of true 0 l ≡ x → Same
    unfinished x s q a b =
        cases last (λ e. both x x t (a ∙ rw e) (rw (end e, append-nil l) b) (s _ _) (q _ _)) (λ e. absurd (n (asks t (a ∙ rw e))))

    longer : length (l ++ more) ≡ length l + length more
    longer = length-append l more

    by_case : Case l → Same
    by_case (none h) = unfinished next.End (λ f g. refl) (λ f g. refl) (next_none last at l h) (next_none true 0 l h)
    by_case (lone h) = unfinished next.Broken (λ f g. refl) (λ f g. refl) (next_lone last at l h) (next_lone true 0 l h)
    by_case (past w f h) = unfinished next.Broken (λ f g. refl) (λ f g. refl) (next_past last at l w f h) (next_past true 0 l w f h)
    by_case (under w h) =
        both next.Broken next.Broken t (next_under last at l w h)
        (next_under true 0 (l ++ more) (omega (arith, longer)) (rw (word_append l more w) h)) refl refl
    by_case (whole w f h) =
        both (next.Frame (record { at = at + word l 0 })) (next.Frame (record { at = 0 + word l 0 })) t (next_whole last at l w f h)
        (rw (word_append l more w) at
        (next_whole true 0 (l ++ more) (omega (arith, longer)) (rw (word_append l more w) f) (rw (word_append l more w) (omega (arith, longer)))))
        (rw (word_append l more w, take-append-le (word l 0) l more h) (frame_moved lines r (take (word l 0) l) at (word l 0)))
        (rw (word_append l more w, take-append-le (word l 0) l more h))

  full : eqb lines 4294967295 ≡ true → Same
  unfolding step_of step_record
  full t = (rw t, rw t)

  pub step_stays : step_of lines r last at l ≢ More → Same
  step_stays n = cases (eqb lines 4294967295) full (λ t. by_case t n (case l))
