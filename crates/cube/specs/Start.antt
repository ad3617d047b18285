-- Where a list of calls begins. Document 02, (g): "A list of calls may begin at a loaded record as well as a fresh one; what it already holds counts
-- as granted before the list, its conditions as reported, its map as standing".
use Rattle.std.specs.Prelude.{ℕ, ◌<◌, ◌≤◌, ◌≡◌, ◌⊎◌, List, [], length, get_or}
use Rattle.history.specs.Account.{History, fresh}
use Rattle.history.specs.Held.{Held, held_before}
use Rattle.record.specs.Layout.{record_size}
use Rattle.record.specs.Says.{dimension_of, says}
use Rattle.cube.specs.Called.{Program}

-- the cube's dimension, the record, the history there, and the subcubes held
pub record Start : Type 0 where
  pub dimension : ℕ
  pub bytes : List ℕ
  pub history : History
  pub held : List Held

-- the record as set-up left it on the buffer b: a fresh cube, nothing is held
abbrev pub set_up : Program → ℕ → List ℕ → Start
set_up P n b = record { dimension = n; bytes = P.setup_record b n; history = fresh; held = [] }

-- the record r as it was handed in, with what it says and holds
abbrev pub loaded : List ℕ → Start
loaded r = record { dimension = dimension_of r; bytes = r; history = says r; held = held_before (dimension_of r) (says r) }

-- set up on a buffer of the record's size, for n up to 10
pub record FromSetUp (P : Program) (a : Start) : Type 0 where
  pub n : ℕ
  pub buffer : List ℕ
  pub small : n ≤ 10
  pub whole : length buffer ≡ record_size
  pub is : a ≡ set_up P n buffer

-- bytes that the loading call let through
pub record FromLoad (P : Program) (a : Start) : Type 0 where
  pub lent : List ℕ
  pub bytes : (i : ℕ) → get_or lent i 0 < 256
  pub passed : P.load_number lent ≡ 0
  pub is : a ≡ loaded lent

abbrev pub MayBegin : Program → Start → Type 0
MayBegin P a = FromSetUp P a ⊎ FromLoad P a
