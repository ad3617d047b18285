-- A whole log, for every input. After a right set-up each frame's line is what the history says of it, and then come the counts.
use Rattle.std.specs.Prelude.{ℕ, ◌+◌, ◌<◌, ◌≤◌, ◌≡◌, ◌≢◌, ◌⊎◌, true, List, [], ◌∷◌, ◌++◌, length}
use Rattle.hypercube.specs.Words.{word}
use Rattle.history.specs.Verdicts.{verdict}
use Rattle.tally.specs.declared.Outcome.{Outcome}
use Rattle.tally.specs.declared.Outcome.TheVariants.{Setup, Refused}
use Rattle.tally.specs.declared.Tally.{Tally}
use Rattle.tally.specs.Counts.{none, counted}
use Rattle.lines.specs.Text.{totals_of}
use Rattle.cube.specs.Run.{Exchange, Exchanges, begin, ◌next◌, fed, history_at}
use Rattle.frame_log.specs.declared.Cursor.{Cursor}
use Rattle.frame_log.specs.declared.Next.{Next}
use Rattle.frame_log.specs.declared.Next.TheVariants.{Frame, More, End, Broken}
use Rattle.frame_log.specs.Next.{next_of}
use Rattle.frame_log.specs.Frames.{told, zeros}
use Rattle.log_text.specs.Text.{line_after, Prints}

-- "06 00 01 03", then n: a set-up of length 6 and kind 0x0301
pub record SetsUp (n : ℕ) (f : List ℕ) : Type 0 where
  pub size : length f ≡ 6
  pub length_field : word f 0 ≡ 6
  pub kind : word f 2 ≡ 0x0301
  pub dimension : word f 4 ≡ n

-- the frames have at least 4 bytes and their length fields are their sizes; nothing else is asked of them
abbrev pub Whole : List (List ℕ) → Type 0
Whole [] = Unit {0}
Whole (f ∷ fs) = ((4 ≤ length f) × (word f 0 ≡ length f)) × Whole fs

abbrev pub joined : List (List ℕ) → List ℕ → List ℕ
joined [] rest = rest
joined (f ∷ fs) rest = f ++ joined fs rest

-- a frame as a call
abbrev pub calls : List ℕ → Exchange
calls f = record { frame = f; buffer = zeros }

-- the end of the input after the last whole frame: nothing, or what is no whole frame
abbrev pub ending : Tally → Next → List ℕ
ending t (Frame c) = []
ending t More = []
ending t End = totals_of t
ending t Broken = line_after t (Refused 3 0) ++ totals_of (counted t (Refused 3 0))

module _ (n : ℕ) where
  -- the outcome of the frame f after the calls es, by the history
  abbrev pub outcome_by : Exchanges → List ℕ → Outcome
  outcome_by es f = told (verdict n (history_at n es) (fed (calls f)))

  -- the lines of the frames after the calls es and the counts t, and the ending
  abbrev pub lines_by : Tally → Exchanges → List (List ℕ) → Next → List ℕ
  lines_by t es [] e = ending t e
  lines_by t es (f ∷ fs) e = line_after t (outcome_by es f) ++ lines_by (counted t (outcome_by es f)) (es next calls f) fs e

  -- the first line is the set-up's
  abbrev pub log_by : List (List ℕ) → Next → List ℕ
  log_by fs e = line_after none (Setup n) ++ lines_by (counted none (Setup n)) begin fs e

-- a first frame that is whole
abbrev pub WholeFirst : List ℕ → Type 0
WholeFirst l = (4 ≤ word l 0) × (word l 0 ≤ length l)

-- an input that doesn't begin with a right set-up, and the number of its refusal. 3: "A lone last byte, or a length under 4 or past the input's end";
-- 4: another kind than a set-up's; 5: another length; 7: n above 10
pub data Wrong (l : List ℕ) : ℕ → Type 0 where
  lone : length l ≡ 1 → Wrong l 3
  under : 1 < length l → word l 0 < 4 → Wrong l 3
  past : 1 < length l → length l < word l 0 → Wrong l 3
  kind : WholeFirst l → word l 2 ≢ 0x0301 → Wrong l 4
  size : WholeFirst l → word l 2 ≡ 0x0301 → word l 0 ≢ 6 → Wrong l 5
  dimension : WholeFirst l → word l 2 ≡ 0x0301 → word l 0 ≡ 6 → 10 < word l 4 → Wrong l 7

-- where the frames fs end: the rest has no whole frame, and they are fewer than a log may have beside its set-up; or a log may have no more
abbrev pub Ends : List (List ℕ) → List ℕ → Type 0
Ends fs rest = (((c : Cursor) → next_of true 0 rest ≢ Frame c) × (length fs + 1 < 4294967295)) ⊎ (length fs + 1 ≡ 4294967295)

-- an input has nothing, or begins wrong, or is a right set-up, frames and a rest
pub data Parts (l : List ℕ) : Type 0 where
  nothing : l ≡ [] → Parts l
  wrong : (m : ℕ) → Wrong l m → Parts l
  right : (n : ℕ) (f : List ℕ) (fs : List (List ℕ)) (rest : List ℕ) → n ≤ 10 → SetsUp n f → Whole fs → Ends fs rest → l ≡ f ++ joined fs rest
      → Parts l

-- on any buffer b of the record's size
pub record LogRight (b : List ℕ) : Type 0 where
  -- "empty input prints them alone"
  pub empty : Prints none b [] (totals_of none)
  -- "A first frame that isn't a right set-up is refused with 3, 4, 5 or 7, tried 0, and stops", whatever follows it; "The counts always follow"
  pub wrong_first : (l : List ℕ) (m : ℕ) → Wrong l m → Prints none b l (line_after none (Refused m 0) ++ totals_of (counted none (Refused m 0)))
  -- a right set-up first, then fewer frames than a log may have, and any end of the input
  pub frames : (n : ℕ) → n ≤ 10 → (f : List ℕ) (fs : List (List ℕ)) (rest : List ℕ) → SetsUp n f → Whole fs
      → ((c : Cursor) → next_of true 0 rest ≢ Frame c) → length fs + 1 < 4294967295
      → Prints none b (f ++ joined fs rest) (log_by n fs (next_of true 0 rest))
  -- "After 4294967295 frames it reads no further.": the counts follow, whatever is left of the input
  pub ceiling : (n : ℕ) → n ≤ 10 → (f : List ℕ) (fs : List (List ℕ)) (rest : List ℕ) → SetsUp n f → Whole fs → length fs + 1 ≡ 4294967295
      → Prints none b (f ++ joined fs rest) (log_by n fs End)
  -- and no input is left out
  pub every : (l : List ℕ) → Parts l
