-- What a record that comes back from disk says. Document 02, (g).
use Rattle.std.specs.Prelude.{ℕ, List}
use Rattle.hypercube.specs.Conditions.{Condition}
use Rattle.hypercube.specs.Formed.{formed}
use Rattle.history.specs.Account.{History}
use Rattle.state.specs.View.{view}
use Rattle.record.specs.Layout.{decode}

-- the dimension of its cube, and a history: "what it already holds counts as granted before the list, its conditions as reported, its map as
-- standing"
abbrev pub dimension_of : List ℕ → ℕ
dimension_of r = (decode r).n

abbrev pub says : List ℕ → History
says r = view (decode r)

-- "each job's nodes are exactly a subcube with the stored star bits"
abbrev pub formed_record : List ℕ → Condition
formed_record r = formed (dimension_of r) (says r).holder (says r).stars
