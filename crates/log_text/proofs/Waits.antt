-- Where a step asks for more: the input doesn't end there, and what is there is no whole frame. Assumes nothing.
use Prim.Native.Nat.{ℕ, ◌<◌, ◌≤◌}
use mathlib.Core.Path.{◌≡◌, refl, sym, ◌∙◌}
use mathlib.Core.Logic.{◌≢◌}
use mathlib.Core.Bool.{Bool, true, false, cond, true≢false}
use mathlib.Core.List.{List}
use native.Mathlib.Omega.{arith}
use lib.Dec.{eqb}
use lib.ListN.{length, take}
use Rattle.hypercube.specs.Words.{word}
use Rattle.hypercube.specs.Tests.{cases}
use Rattle.frame_log.specs.declared.Next.{Next}
use Rattle.frame_log.specs.declared.Next.TheVariants as next
use Rattle.frame_log.specs.declared.Step.TheVariants.{More}
use Rattle.frame_log.specs.Next.{next_of}
use Rattle.frame_log.specs.Steps.{step_by, step_of}
use Rattle.frame_log.proofs.Nexts.{Case, none, lone, under, past, whole, case, next_none, next_lone, next_under, next_past, next_whole}
use Rattle.log_text.proofs.Parts.{on_more}

-- the bytes l are fewer than any m that a length field and its frame need
pub record Short (last : Bool) (l : List ℕ) : Type 0 where
  pub goes_on : last ≡ false
  pub short : (m : ℕ) → 2 ≤ m → word l 0 ≤ m → length l < m

module _ (last : Bool) (at : ℕ) (l : List ℕ) (e : next_of last at l ≡ next.More) where
  -- where the answer depends on whether the input ends
  not_last : (x : Next) → (x ≡ next.More → ◌≡◌ {A = ℕ} 0 1) → next_of last at l ≡ cond last x next.More → last ≡ false
  not_last x n q = cases last (λ t. let z = n (sym (q ∙ rw t) ∙ e) in absurd (omega arith)) (λ t. t)

  pub next_short : Short last l
  next_short = go (case l)
    where
      go : Case l → Short last l
      go (none h) = record { goes_on = not_last next.End (λ k. cc) (next_none last at l h); short = λ m two fits. omega arith }
      go (lone h) = record { goes_on = not_last next.Broken (λ k. cc) (next_lone last at l h); short = λ m two fits. omega arith }
      go (past w f h) = record { goes_on = not_last next.Broken (λ k. cc) (next_past last at l w f h); short = λ m two fits. omega arith }
      go (under w h) = let k = next_under last at l w h in let z : ◌≡◌ {A = ℕ} 0 1 = cc in absurd (omega arith)
      go (whole w f h) = let k = next_whole last at l w f h in let z : ◌≡◌ {A = ℕ} 0 1 = cc in absurd (omega arith)

-- where the input ends, more is never wanted
pub never_more : (at : ℕ) (l : List ℕ) → next_of true at l ≢ next.More
never_more at l e = true≢false (next_short true at l e).goes_on

module _ (lines : ℕ) (r : List ℕ) where
  asked_next : (f : List ℕ) (n : Next) → step_by lines r f n ≡ More → n ≡ next.More
  asked_next f (next.Frame d) e = absurd (on_more lines r f d e)
  asked_next f next.More e = refl
  asked_next f next.End e = cc
  asked_next f next.Broken e = cc

  pub step_short : (last : Bool) (at : ℕ) (l : List ℕ) → step_of lines r last at l ≡ More → Short last l
  unfolding step_of
  step_short last at l e =
      next_short last at l
      (cases (eqb lines 4294967295) (λ a. let k = rw a at e in cc)
      (λ a. asked_next (take (word l 0) l) (next_of last at l) (rw a at e)))

  pub step_never_more : (at : ℕ) (l : List ℕ) → step_of lines r true at l ≢ More
  step_never_more at l e = true≢false (step_short true at l e).goes_on
