-- A log in pieces of its input and of its text: where it stands, and one turn of it.
use Rattle.std.specs.Prelude.{ℕ, ◌+◌, ◌-◌, ◌≤◌, ◌≡◌, Bool, true, false, List, ◌++◌, eqb, length, take, drop}
use Rattle.lines.specs.Text.{totals_of}
use Rattle.lines.specs.Put.{Put}
use Rattle.log_text.specs.declared.Place.{Place}
use Rattle.log_text.specs.Moves.{Ran}
use Rattle.log_text.specs.Moves as moves
use Rattle.log_stream.specs.declared.Stream.{Stream}

-- nothing is read, nothing is printed
abbrev pub start : Stream
start = record { place = moves.start; filled = 0; last = false }

-- after a read of n bytes; a read of none says that the input has ended
abbrev pub took : Stream → ℕ → Stream
took s n = record { place = s.place; filled = s.filled + n; last = eqb n 0 }

-- after the bytes in the output were written: the next line goes to its front
abbrev pub wrote : Stream → Stream
wrote s = record {
  place = record { at = s.place.at; put = 0; tally = s.place.tally; ended = s.place.ended; waits = s.place.waits };
  filled = s.filled;
  last = s.last;
}

-- the bytes in the output that are to be written
abbrev pub unwritten : Stream → List ℕ → List ℕ
unwritten s out = take s.place.put out

-- the bytes of an output that lines may take: the others are for the counts, which are at most 88 bytes
abbrev pub room : List ℕ → ℕ
room out = length out - 88

-- the places of a stream lie in a window and an output of these lengths
pub record Ready (s : Stream) (window output : ℕ) : Type 0 where
  pub at : s.place.at ≤ s.filled
  pub filled : s.filled ≤ window
  pub put : s.place.put + 88 ≤ output

-- the log has ended at the place p: the counts follow the lines in the output, and are to be written with them
pub record Closed (s : Stream) (p : Place) (out : List ℕ) (t : Stream) (out' : List ℕ) : Type 0 where
  pub counts : Put out p.put (totals_of p.tally) out' t.place.put
  pub stream : t ≡ record {
    place = record { at = p.at; put = t.place.put; tally = p.tally; ended = true; waits = false };
    filled = s.filled;
    last = s.last;
  }

-- more of the input is wanted at the place p: the input from there on is at the window's front, and a read is due behind it, over whatever stands
-- there
pub record Wanting (s : Stream) (p : Place) (w : List ℕ) (t : Stream) (w' : List ℕ) : Type 0 where
  pub front : take t.filled w' ≡ take t.filled (drop p.at w)
  pub long : length w' ≡ length w
  pub stream : t ≡ record {
    place = record { at = 0; put = p.put; tally = p.tally; ended = false; waits = true };
    filled = s.filled - p.at;
    last = s.last;
  }

-- the output has no room for a line at the place p: its bytes are to be written
pub record Full (s : Stream) (p : Place) (w out : List ℕ) (t : Stream) (w' out' : List ℕ) : Type 0 where
  pub stream : t ≡ record { place = p; filled = s.filled; last = s.last }
  pub window : w' ≡ w
  pub output : out' ≡ out

-- what is due at the place p, where the log has ended, or waits, or can't go on
abbrev pub Due : (ended waits : Bool) → Stream → Place → List ℕ → List ℕ → Stream → List ℕ → List ℕ → Type 0
Due true waits s p w out t w' out' = Closed s p out t out' × (w' ≡ w)
Due false true s p w out t w' out' = Wanting s p w t w' × (out' ≡ out)
Due false false s p w out t w' out' = Full s p w out t w' out'

-- one turn: from the stream s to the stream t, with the record, the window and the output before and after. The log goes on in the window as far
-- as it can, up to the place `stop`, and puts its lines into the part of the output that is for lines; then something is due
pub record Advanced (s : Stream) (r w out : List ℕ) (t : Stream) (r' w' out' : List ℕ) : Type 0 where
  pub stop : Place
  pub put : List ℕ
  pub ran : Ran (take s.filled w) s.last s.place r (take (room out) out) stop r' put
  pub due : Due stop.ended stop.waits s stop w (put ++ drop (room out) out) t w' out'
