-- The kinds as the code has them: those of the history's table, which also has one for any other number.
use Rattle.std.specs.Prelude.{ℕ, ◌≡◌, Result, Ok, Err}
use Rattle.hypercube.specs.declared.Refusal.{Refusal}
use Rattle.hypercube.specs.declared.Refusal.TheVariants.{UnknownKind}
use Rattle.history.specs.Calls as calls
use Rattle.history.specs.Calls.{good, fault, repaired, relabel, request, release, grow, other, kind_of}
use Rattle.frames.specs.declared.Kind.{Kind}
use Rattle.frames.specs.declared.Kind.TheVariants.{Good, Fault, Repaired, Relabel, Request, Release, Grow}

-- the history's kind of each
abbrev pub in_table : Kind → calls.Kind
in_table Good = good
in_table Fault = fault
in_table Repaired = repaired
in_table Relabel = relabel
in_table Request = request
in_table Release = release
in_table Grow = grow

-- and back; cause 4 where the table has no kind
abbrev pub of_table : calls.Kind → Result Kind Refusal
of_table good = Ok Good
of_table fault = Ok Fault
of_table repaired = Ok Repaired
of_table relabel = Ok Relabel
of_table request = Ok Request
of_table release = Ok Release
of_table grow = Ok Grow
of_table other = Err UnknownKind

-- the result is the kind of the number
abbrev pub Decodes : ℕ → Result Kind Refusal → Type 0
Decodes w r = r ≡ of_table (kind_of w)
