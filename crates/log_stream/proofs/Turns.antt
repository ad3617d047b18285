-- One turn keeps its places in the buffers. Assumes nothing.
use Prim.Native.Nat.{ℕ, ◌≤◌}
use mathlib.Core.Path.{◌≡◌}
use mathlib.Core.List.{List, ◌++◌}
use native.Mathlib.Omega.{arith}
use lib.ListN.{length, take, drop}
use lib.Seq.{length-take-le, length_front}
use Rattle.log_text.specs.declared.Place.{Place}
use Rattle.log_text.specs.Moves.{Ran}
use Rattle.log_stream.specs.declared.Stream.{Stream}
use Rattle.log_stream.specs.Streams.{room, Ready}

module _ (s : Stream) (r w out : List ℕ) (q : Place) (r' put : List ℕ) (R : Ready s (length w) (length out))
    (A : Ran (take s.filled w) s.last s.place r (take (room out) out) q r' put) where
  -- the window's input and the output's part for lines
  pub filled_long : length (take s.filled w) ≡ s.filled
  filled_long = length-take-le s.filled w R.filled

  pub room_long : length (take (room out) out) ≡ room out
  room_long = length-take-le (room out) out (omega arith)

  pub at_kept : q.at ≤ s.filled
  at_kept = rw filled_long at (A.moves.inside (rw filled_long R.at))

  pub put_kept : q.put ≤ room out
  put_kept = rw room_long at (A.moves.fits (rw room_long (omega (arith, R.put))))

  -- the output after the lines
  pub long : length (put ++ drop (room out) out) ≡ length out
  long = length_front out put (room out) A.moves.printed.long
