-- The counts of lines and of each outcome. Document 01, "Log program".
use Rattle.std.specs.Prelude.{ℕ, ◌+◌, min, List, [], ◌∷◌}
use Rattle.tally.specs.declared.Outcome.{Outcome}
use Rattle.tally.specs.declared.Outcome.TheVariants.{Setup, Done, Granted, Refused}
use Rattle.tally.specs.declared.Tally.{Tally}

-- "a count that has reached 4294967295 stays there"
abbrev pub more : ℕ → ℕ
more c = min (c + 1) 4294967295

abbrev pub none : Tally
none = record { total = 0; setup = 0; done = 0; granted = 0; refused = 0 }

-- one line more
abbrev pub counted : Tally → Outcome → Tally
counted t (Setup n) = record { total = more t.total; setup = more t.setup; done = t.done; granted = t.granted; refused = t.refused }
counted t (Done v) = record { total = more t.total; setup = t.setup; done = more t.done; granted = t.granted; refused = t.refused }
counted t (Granted j low stars k) = record { total = more t.total; setup = t.setup; done = t.done; granted = more t.granted; refused = t.refused }
counted t (Refused m k) = record { total = more t.total; setup = t.setup; done = t.done; granted = t.granted; refused = more t.refused }

-- the counts of a list of lines, the first at its head, from the counts t on
abbrev pub counted_all : Tally → List Outcome → Tally
counted_all t [] = t
counted_all t (o ∷ os) = counted_all (counted t o) os
