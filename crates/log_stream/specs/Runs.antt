-- Every run of a log in pieces, and what is claimed of it. What reads hand over and what writes take is all that a run has from outside.
use Rattle.std.specs.Prelude.{ℕ, ◌+◌, ◌<◌, ◌≤◌, ◌≡◌, Bool, true, false, List, [], ◌++◌, eqb, length, get_or, take, drop}
use Rattle.tally.specs.Counts.{none}
use Rattle.log_text.specs.Text.{Prints}
use Rattle.log_stream.specs.declared.Stream.{Stream}
use Rattle.log_stream.specs.Streams.{start, took, wrote, unwritten, Ready, Advanced}

-- a read put n bytes into the window behind the input that it has: that input stays, and behind the n bytes anything may stand
pub record Given (t : Stream) (w : List ℕ) (n : ℕ) (w' : List ℕ) : Type 0 where
  pub fits : t.filled + n ≤ length w
  pub kept : take t.filled w' ≡ take t.filled w
  pub long : length w' ≡ length w

-- the n bytes
abbrev pub piece : Stream → ℕ → List ℕ → List ℕ
piece t n w' = take n (drop t.filled w')

-- the runs on a record b, a window and an output: `input` is what all reads gave, one after the other, `over` says that the last one gave
-- nothing, and `written` is what all writes took; then the stream, the record, the window and the output. After each turn comes the read that it
-- waits for, or the write of what is in the output. A stream that has ended takes no more turns
pub data Run (b window output : List ℕ) : (input : List ℕ) (over : Bool) (written : List ℕ) (s : Stream) (r w out : List ℕ) → Type 0 where
  begins : Run b window output [] false [] start b window output
  reads : {input : List ℕ} {over : Bool} {written : List ℕ} {s t : Stream} {r w out r' w' out' : List ℕ} (n : ℕ) (w'' : List ℕ)
      → Run b window output input over written s r w out → s.place.ended ≡ false → Advanced s r w out t r' w' out'
      → t.place.waits ≡ true → Given t w' n w'' → Run b window output (input ++ piece t n w'') (eqb n 0) written (took t n) r' w'' out'
  writes : {input : List ℕ} {over : Bool} {written : List ℕ} {s t : Stream} {r w out r' w' out' : List ℕ}
      → Run b window output input over written s r w out → s.place.ended ≡ false → Advanced s r w out t r' w' out'
      → t.place.waits ≡ false → Run b window output input over (written ++ unwritten t out') (wrote t) r' w' out'

-- a stream with its buffers that a run reaches
pub record Reached (b window output : List ℕ) (s : Stream) (r w out : List ℕ) : Type 0 where
  pub input : List ℕ
  pub over : Bool
  pub written : List ℕ
  pub run : Run b window output input over written s r w out

-- how many turns a run has taken
abbrev pub turns : {b window output input : List ℕ} {over : Bool} {written : List ℕ} {s : Stream} {r w out : List ℕ}
    → Run b window output input over written s r w out → ℕ
turns begins = 0
turns (reads n w'' R on A waits G) = turns R + 1
turns (writes R on A waits) = turns R + 1

-- `written` is the beginning of the text of the input
pub record Begun (b input written : List ℕ) : Type 0 where
  pub more : List ℕ
  pub prints : Prints none b input (written ++ more)

-- what is claimed of every run R
pub record RunRight {b window output input : List ℕ} {over : Bool} {written : List ℕ} {s : Stream} {r w out : List ℕ}
    (R : Run b window output input over written s r w out) : Type 0 where
  -- once the log has ended, what was written is the text of the whole input, whatever pieces it came in: of what was read and of what is left of it.
  -- Where a read gave nothing, nothing is left
  pub text : s.place.ended ≡ true → (left : List ℕ) → (over ≡ true → left ≡ []) → Prints none b (input ++ left) written
  -- until then it is the beginning of that text
  pub begun : (left : List ℕ) → (over ≡ true → left ≡ []) → Begun b (input ++ left) written
  -- the next turn may be taken
  pub ready : Ready s (length w) (length out)
  -- where the window's entries are bytes, a read is never asked for no bytes: it gives none only at the input's end
  pub asked : s.place.ended ≡ false → ((i : ℕ) → get_or w i 0 < 256) → {t : Stream} {r' w' out' : List ℕ} → Advanced s r w out t r' w' out'
      → t.place.waits ≡ true → t.filled < length w'
  -- each turn but one reads or writes something
  pub moves : turns R ≤ length input + length written + 1
