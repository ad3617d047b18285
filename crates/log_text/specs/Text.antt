-- The text of a whole log. Document 01, "Log program": "It prints each frame's place and outcome, then counts."
use Rattle.std.specs.Prelude.{◌≡◌, true, List, ◌++◌, ℕ, drop}
use Rattle.tally.specs.declared.Outcome.{Outcome}
use Rattle.tally.specs.declared.Tally.{Tally}
use Rattle.tally.specs.Counts.{counted}
use Rattle.lines.specs.Text.{line_of, totals_of}
use Rattle.frame_log.specs.declared.Cursor.{Cursor}
use Rattle.frame_log.specs.declared.Step.TheVariants.{Line, Last, End}
use Rattle.frame_log.specs.Steps.{step_of, step_record}

-- the line of an outcome after the counts t: its place is the number of lines
abbrev pub line_after : Tally → Outcome → List ℕ
line_after t o = line_of (counted t o).total o

-- with the counts t and the record r, and l left of the input, a log prints the text: a line for each step that has one, then the counts
pub data Prints : Tally → List ℕ → List ℕ → List ℕ → Type 0 where
  ends : (t : Tally) (r l : List ℕ) → step_of t.total r true 0 l ≡ End → Prints t r l (totals_of t)
  stops : (t : Tally) (r l : List ℕ) (o : Outcome) → step_of t.total r true 0 l ≡ Last o → Prints t r l (line_after t o ++ totals_of (counted t o))
  goes : (t : Tally) (r l : List ℕ) (o : Outcome) (c : Cursor) (text : List ℕ) → step_of t.total r true 0 l ≡ Line o c
      → Prints (counted t o) (step_record t.total r true 0 l) (drop c.at l) text → Prints t r l (line_after t o ++ text)

-- a text that it prints
pub record Printed (t : Tally) (r l : List ℕ) : Type 0 where
  pub text : List ℕ
  pub prints : Prints t r l text
