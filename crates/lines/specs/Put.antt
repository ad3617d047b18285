-- Bytes put into a buffer at a place: the others stay, and what is answered is the place after them.
use Rattle.std.specs.Prelude.{ℕ, ◌+◌, ◌≤◌, ◌≡◌, List, length}
use Rattle.std.proofs.lemmas.List.Edits.{sets}
use Rattle.lines.specs.Text.{item}

pub record Put (before : List ℕ) (at : ℕ) (bytes : List ℕ) (after : List ℕ) (next : ℕ) : Type 0 where
  pub stored : after ≡ sets before at bytes
  pub placed : next ≡ at + length bytes
  pub long : length after ≡ length before

-- a text and a number of 32 bits after it
pub record Item (before : List ℕ) (at : ℕ) (text : List ℕ) (x : ℕ) (after : List ℕ) (next : ℕ) : Type 0 where
  pub put : Put before at (item text x) after next
  pub short : next ≤ at + length text + 10
