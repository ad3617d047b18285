-- Document 02, (n): "each is granted exactly when its size is at most the count of free nodes left by the grants before it". It follows from demand
-- 3. Two programs that break it: one that splits what a later request needs, and one that refuses what fits.
use Rattle.std.specs.Prelude.{ℕ, List}
use Rattle.cube.specs.Called.{Program}
use Rattle.cube.specs.Run.{Exchanges, record_after, history_at}
use Rattle.no_waste.specs.NoWaste.{OneDead, NoWasteReplied}
use Rattle.weak.specs.Programs.{by_requests, answers14}
use Rattle.weak.specs.BestFits.{first_fit}
use Rattle.weak.specs.Parts.{Breaks}

-- of a cube set up on the buffer b, after any calls
abbrev pub NothingWasted : Program → ℕ → List ℕ → Type 0
NothingWasted P n b =
    (before : Exchanges) → OneDead n (history_at n before) → NoWasteReplied P n (record_after P (P.setup_record b n) before) (history_at n before)

-- on any buffer of the record's size, b
pub record WastesRefuted (b : List ℕ) : Type 0 where
  pub pair_split : Breaks NothingWasted (by_requests first_fit) 2 b
  pub fitting_refused : Breaks NothingWasted (by_requests answers14) 0 b
