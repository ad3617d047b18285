-- A log has one text: at most one, and at least one. Assumes nothing.
use Prim.Native.Nat.{ℕ, zero, suc, ◌<◌}
use mathlib.Core.Path.{◌≡◌, refl, ap}
use mathlib.Core.Bool.{true}
use mathlib.Core.List.{List, ◌++◌}
use native.Mathlib.Omega.{arith}
use lib.ListN.{length, drop, length-drop}
use Rattle.tally.specs.declared.Outcome.{Outcome}
use Rattle.tally.specs.declared.Tally.{Tally}
use Rattle.tally.specs.Counts.{counted}
use Rattle.lines.specs.Text.{totals_of}
use Rattle.frame_log.specs.declared.Cursor.{Cursor}
use Rattle.frame_log.specs.declared.Step.{Step}
use Rattle.frame_log.specs.declared.Step.TheVariants.{Line, Last, More, End}
use Rattle.frame_log.specs.Steps.{step_of, step_record}
use Rattle.log_text.specs.Text.{line_after, Prints, ends, stops, goes, Printed}
use Rattle.log_text.proofs.Parts.{line_frame}
use Rattle.log_text.proofs.Waits.{step_never_more}

pub prints_once : {t : Tally} {r l a b : List ℕ} → Prints t r l a → Prints t r l b → a ≡ b
prints_once (ends t r l e) (ends t' r' l' e') = refl
prints_once (ends t r l e) (stops t' r' l' o e') = cc
prints_once (ends t r l e) (goes t' r' l' o c text e' p) = cc
prints_once (stops t r l o e) (ends t' r' l' e') = cc
prints_once (stops t r l o e) (stops t' r' l' o' e') = cc
prints_once (stops t r l o e) (goes t' r' l' o' c text e' p) = cc
prints_once (goes t r l o c text e p) (ends t' r' l' e') = cc
prints_once (goes t r l o c text e p) (stops t' r' l' o' e') = cc
prints_once (goes t r l o c text e p) (goes t' r' l' o' c' text' e' p') =
    let q : o ≡ o' = cc in
    let k : c ≡ c' = cc in
    rw q (ap (λ (u : List ℕ). line_after t o' ++ u) (prints_once p (rw (← q, ← k) at p')))

-- ---- at least one: each frame leaves less of the input

module _ (t : Tally) (r l : List ℕ) (shorter : (t' : Tally) (r' l' : List ℕ) → length l' < length l → Printed t' r' l') where
  -- a frame that was read has at least 4 bytes
  less : (o : Outcome) (c : Cursor) → step_of t.total r true 0 l ≡ Line o c → length (drop c.at l) < length l
  less o c e = let F = line_frame t.total r true 0 l o c e in rw length-drop (omega (arith, F.ends, F.four, F.there))

  by_step : (s : Step) → step_of t.total r true 0 l ≡ s → Printed t r l
  by_step (Line o c) e =
      let rest = shorter (counted t o) (step_record t.total r true 0 l) (drop c.at l) (less o c e) in
      record { text = line_after t o ++ rest.text; prints = goes t r l o c rest.text e rest.prints }
  by_step (Last o) e = record { text = line_after t o ++ totals_of (counted t o); prints = stops t r l o e }
  by_step More e = absurd (step_never_more t.total r 0 l e)
  by_step End e = record { text = totals_of t; prints = ends t r l e }

-- for every input shorter than k
printed_below : (k : ℕ) (t : Tally) (r l : List ℕ) → length l < k → Printed t r l
printed_below zero t r l h = absurd (omega arith)
printed_below (suc k) t r l h = by_step t r l (λ t' r' l' less. printed_below k t' r' l' (omega arith)) (step_of t.total r true 0 l) refl

pub prints_some : (t : Tally) (r l : List ℕ) → Printed t r l
prints_some t r l = printed_below (suc (length l)) t r l (omega arith)
