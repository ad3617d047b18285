-- A state as the history that it says: a condition, a holder and star bits for each node, and the map.
use Rattle.std.specs.Prelude.{ℕ, List, get_or}
use Rattle.history.specs.Account.{History}
use Rattle.state.specs.declared.State.{State}

-- the entry at a place, 0 beyond the list
abbrev pub entry : List ℕ → ℕ → ℕ
entry l x = get_or l x 0

abbrev pub view : State → History
view s = record { condition = entry s.conditions; holder = entry s.holders; stars = entry s.stars; directions = s.map }
