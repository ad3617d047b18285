-- The bytes of a call's frame. Document 01, "Six calls and their frames": "A frame is length, kind, fields, two bytes each unless said."
use Rattle.std.specs.Prelude.{ℕ, List, [], ◌∷◌, ◌++◌}
use Rattle.hypercube.specs.Words.{words}
use Rattle.state.specs.declared.Call.{Call}
use Rattle.state.specs.declared.Call.TheVariants.{Good, Fault, Repaired, Relabel, Request, Release, Grow}
use Rattle.call_frames.specs.declared.Frame.{Frame}
use Rattle.call_frames.specs.declared.Frame.TheVariants.{Four, Six, Eight}

-- its bytes, of whichever size
abbrev pub bytes_of : Frame → List ℕ
bytes_of (Four bytes) = bytes
bytes_of (Six bytes) = bytes
bytes_of (Eight bytes) = bytes

-- the frame of a call; k and the strategy are a byte each
abbrev pub frame : Call → List ℕ
frame (Good x) = words (6 ∷ 0x0101 ∷ x.0 ∷ [])
frame (Fault x) = words (6 ∷ 0x0102 ∷ x.0 ∷ [])
frame (Repaired x) = words (6 ∷ 0x0103 ∷ x.0 ∷ [])
frame Relabel = words (4 ∷ 0x0203 ∷ [])
frame (Request job k strategy) = words (8 ∷ 0x0201 ∷ job ∷ []) ++ k ∷ strategy ∷ []
frame (Release job) = words (6 ∷ 0x0202 ∷ job ∷ [])
frame (Grow job k strategy) = words (8 ∷ 0x0204 ∷ job ∷ []) ++ k ∷ strategy ∷ []
