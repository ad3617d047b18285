-- The parts of a record that have a word for each node, by their place.
use Rattle.std.specs.Prelude.{ℕ, ◌≡◌, ◌⊎◌, cond, List, eqb}
use Rattle.state.specs.declared.State.{State}
use Rattle.state.specs.States.{with_holders, with_stars}
use Rattle.record.specs.Layout.{holders_at, stars_at}

-- the place of one of them: the holders, or the star bits
abbrev pub Words : ℕ → Type 0
Words at = (at ≡ holders_at) ⊎ (at ≡ stars_at)

-- the words of the part at that place, and the state with others there
abbrev pub words_of : ℕ → State → List ℕ
words_of at s = cond (eqb at holders_at) s.holders s.stars

abbrev pub with_words : ℕ → State → List ℕ → State
with_words at s l = cond (eqb at holders_at) (with_holders s l) (with_stars s l)
