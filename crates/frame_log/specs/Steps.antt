-- One step of a log. Document 01, "Log program".
use Rattle.std.specs.Prelude.{ℕ, ◌≡◌, Bool, cond, List, eqb, take}
use Rattle.hypercube.specs.Words.{word}
use Rattle.tally.specs.declared.Outcome.TheVariants.{Setup, Refused}
use Rattle.frame_log.specs.declared.Cursor.{Cursor}
use Rattle.frame_log.specs.declared.Next.{Next}
use Rattle.frame_log.specs.declared.Next.TheVariants as next
use Rattle.frame_log.specs.declared.Step.{Step}
use Rattle.frame_log.specs.declared.Step.TheVariants as step
use Rattle.frame_log.specs.Next.{next_of}
use Rattle.frame_log.specs.Frames.{first_number, first_record, later_outcome, later_record}

-- the frame f, which ends at the cursor c, with `lines` lines before it, on the record r. The first frame: "'setup' has n"; "A first frame that isn't
-- a right set-up is refused with 3, 4, 5 or 7, tried 0, and stops"
unfoldable pub on_frame : ℕ → List ℕ → List ℕ → Cursor → Step
on_frame lines r f c =
    cond (eqb lines 0)
    (cond (eqb (first_number r f) 0) (step.Line (Setup (word f 4)) c) (step.Last (Refused (first_number r f) 0)))
    (step.Line (later_outcome r f) c)

unfoldable pub on_record : ℕ → List ℕ → List ℕ → List ℕ
on_record lines r f = cond (eqb lines 0) (first_record r f) (later_record r f)

pub record OnFrame (lines : ℕ) (r f : List ℕ) (c : Cursor) (answer : Step) (r' : List ℕ) : Type 0 where
  pub answered : answer ≡ on_frame lines r f c
  pub «record» : r' ≡ on_record lines r f

-- by what the input has next; f is the frame, if there is one
abbrev pub step_by : ℕ → List ℕ → List ℕ → Next → Step
step_by lines r f (next.Frame c) = on_frame lines r f c
step_by lines r f next.More = step.More
step_by lines r f next.End = step.End
step_by lines r f next.Broken = step.Last (Refused 3 0)

abbrev pub record_by : ℕ → List ℕ → List ℕ → Next → List ℕ
record_by lines r f (next.Frame c) = on_record lines r f
record_by lines r f next.More = r
record_by lines r f next.End = r
record_by lines r f next.Broken = r

-- "After 4294967295 frames it reads no further." Each frame has a line, so `lines` counts the frames too; l is the input from the place `at` on
unfoldable pub step_of : ℕ → List ℕ → Bool → ℕ → List ℕ → Step
step_of lines r last at l = cond (eqb lines 4294967295) step.End (step_by lines r (take (word l 0) l) (next_of last at l))

unfoldable pub step_record : ℕ → List ℕ → Bool → ℕ → List ℕ → List ℕ
step_record lines r last at l = cond (eqb lines 4294967295) r (record_by lines r (take (word l 0) l) (next_of last at l))

pub record Stepped (lines : ℕ) (r : List ℕ) (last : Bool) (at : ℕ) (l : List ℕ) (answer : Step) (r' : List ℕ) : Type 0 where
  pub answered : answer ≡ step_of lines r last at l
  pub «record» : r' ≡ step_record lines r last at l
