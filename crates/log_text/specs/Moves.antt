-- A part of a log: what was printed of it, and that what is left to print completes it.
use Rattle.std.specs.Prelude.{ℕ, ◌+◌, ◌<◌, ◌≤◌, ◌≡◌, ◌⊎◌, Bool, true, false, List, [], ◌++◌, length, drop}
use Rattle.tally.specs.declared.Outcome.{Outcome}
use Rattle.tally.specs.Counts.{none, counted}
use Rattle.lines.specs.Text.{totals_of}
use Rattle.lines.specs.Put.{Put}
use Rattle.frame_log.specs.declared.Step.TheVariants.{More}
use Rattle.frame_log.specs.Steps.{step_of}
use Rattle.log_text.specs.declared.Place.{Place}
use Rattle.log_text.specs.Text.{line_after, Prints}

abbrev pub start : Place
start = record { at = 0; put = 0; tally = none; ended = false; waits = false }

-- a line of the outcome o was added at the place p, which leads to the place q
pub record Added (out : List ℕ) (p : Place) (o : Outcome) (to : ℕ) (stop : Bool) (out' : List ℕ) (q : Place) : Type 0 where
  pub put : Put out p.put (line_after p.tally o) out' q.put
  pub at : q.at ≡ to
  pub tally : q.tally ≡ counted p.tally o
  pub ended : q.ended ≡ stop
  pub waits : q.waits ≡ false

-- the text that is left to print at a place: of the record r and of what is left of the input, or the counts alone once the log has ended
abbrev pub Left : Place → List ℕ → List ℕ → List ℕ → Type 0
Left p r l text = elim p.ended [ true ↦ text ≡ totals_of p.tally | false ↦ Prints p.tally r l text ]

-- from the place p to the place q of the window w, with the records and outputs at each. `last`: the input ends where the window does; otherwise
-- any bytes may follow it
pub record Moves (w : List ℕ) (last : Bool) (p : Place) (r out : List ℕ) (q : Place) (r' out' : List ℕ) : Type 0 where
  pub bytes : List ℕ
  pub printed : Put out p.put bytes out' q.put
  pub completes : (more text : List ℕ) → (last ≡ true → more ≡ []) → Left q r' (drop q.at w ++ more) text
      → Left p r (drop p.at w ++ more) (bytes ++ text)
  pub inside : p.at ≤ length w → q.at ≤ length w
  pub fits : p.put ≤ length out → q.put ≤ length out

-- the window has no whole frame from the place q on, and the input doesn't end there
abbrev pub Waiting : List ℕ → Bool → Place → List ℕ → Type 0
Waiting w last q r = step_of q.tally.total r last q.at (drop q.at w) ≡ More

-- one step: it ends, waits, or goes on in the window
pub record Turned (w : List ℕ) (last : Bool) (p : Place) (r out : List ℕ) (q : Place) (r' out' : List ℕ) : Type 0 where
  pub moves : Moves w last p r out q r' out'
  pub waiting : q.waits ≡ true → Waiting w last q r'
  pub falls : (q.ended ≡ true) ⊎ ((q.waits ≡ true) ⊎ ((p.at < q.at) × (q.at ≤ length w)))

-- as far as it goes: the log has ended, or more of the input is wanted, or the output has no room for a line
pub record Ran (w : List ℕ) (last : Bool) (p : Place) (r out : List ℕ) (q : Place) (r' out' : List ℕ) : Type 0 where
  pub moves : Moves w last p r out q r' out'
  pub waiting : q.waits ≡ true → Waiting w last q r'
  pub stopped : (q.ended ≡ true) ⊎ ((q.waits ≡ true) ⊎ (length out' < q.put + 64))
