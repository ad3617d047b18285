-- A turn of the log program is a turn of a run: what it reads and writes is what the run is told. Where it is known which bytes a reader has left
-- and which a writer holds, as it is of readers and writers in memory, these are the bytes that the run is told.
use Rattle.std.specs.Prelude.{ℕ, ◌+◌, ◌≤◌, ◌^◌, ◌≡◌, ◌⊎◌, true, false, List, ◌++◌, length, min, Result, Ok, Err, IfOk}
use Rattle.std.specs.declared.option.Option.{Option}
use Rattle.std.specs.Io.KnownBytes.{Consumes, Appends}
use Rattle.log_stream.specs.declared.Stream.{Stream}
use Rattle.log_stream.specs.Streams.{took, wrote}
use Rattle.log_stream.specs.Runs.{Given, piece, Reached, turns}

-- how many bytes a read put into a part of this length: none where it failed
abbrev pub read_count : {E : Type 0} → Result ℕ E → ℕ → ℕ
read_count (Ok n) most = min n most
read_count (Err e) most = 0

-- a read of some n bytes into the window, the next of those that the reader has left
pub record Fed (left left' : Option (List ℕ)) (s : Stream) (w : List ℕ) (t : Stream) (w' : List ℕ) : Type 0 where
  pub count : ℕ
  pub given : Given s w count w'
  pub stream : t ≡ took s count
  pub consumed : Consumes left left' (piece s count w')

-- after a write, by whether it was made
abbrev pub after_write : {E : Type 0} → Result (Unit {0}) E → Stream → Result Stream E
after_write (Ok u) s = Ok (wrote s)
after_write (Err e) s = Err e

-- a write of what the stream tells, made or failed; one that was made is behind what the writer held
abbrev pub Handed : {E : Type 0} → (held held' : Option (List ℕ)) → List ℕ → Stream → Result Stream E → Type 0
Handed held held' bytes s t = IfOk t (λ u. (u ≡ wrote s) × Appends held held' bytes)

-- what a run reaches by one turn more than that of R, which read and wrote these bytes
pub record OneMore {b window output : List ℕ} {s : Stream} {r w out : List ℕ} (R : Reached b window output s r w out)
    (left left' held held' : Option (List ℕ)) (t : Stream) (r' w' out' : List ℕ) : Type 0 where
  pub reached : Reached b window output t r' w' out'
  pub more : turns reached.run ≡ turns R.run + 1
  pub read : List ℕ
  pub input : reached.input ≡ R.input ++ read
  pub consumed : Consumes left left' read
  pub put : List ℕ
  pub written : reached.written ≡ R.written ++ put
  pub appended : Appends held held' put

-- from a stream that a run reaches, and that has not ended, to one that it reaches next, unless a write failed
abbrev pub Turned : {E : Type 0} → (left left' held held' : Option (List ℕ)) → Stream → List ℕ → List ℕ → List ℕ → Result Stream E
    → List ℕ → List ℕ → List ℕ → Type 0
Turned left left' held held' s r w out t r' w' out' =
    IfOk t (λ u. s.place.ended ≡ false → (b window output : List ℕ) (R : Reached b window output s r w out)
    → OneMore R left left' held held' u r' w' out')

-- a run that was taken to its end, or to the end of a count of 2^64 - 1 turns, in which almost as many bytes were read and written: it was told the
-- bytes that the reader had left, in their order, and what it wrote is behind what the writer held
pub record Finished (b window output : List ℕ) (left left' held held' : Option (List ℕ)) (s : Stream) (r w out : List ℕ) : Type 0 where
  pub reached : Reached b window output s r w out
  pub ended : (s.place.ended ≡ true) ⊎ (2 ^ 64 ≤ length reached.input + length reached.written + 2)
  pub consumed : Consumes left left' reached.input
  pub appended : Appends held held' reached.written

-- the whole log, unless a write failed
abbrev pub Printed : {E : Type 0} → (left left' held held' : Option (List ℕ)) → List ℕ → List ℕ → List ℕ → Result Stream E
    → List ℕ → List ℕ → List ℕ → Type 0
Printed left left' held held' b window output t r w out = IfOk t (λ u. Finished b window output left left' held held' u r w out)
