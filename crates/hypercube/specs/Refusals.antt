-- The numbers of the refusals. Document 01, "When a call says no"; document 02, (e), 17, and (g), 18.
use Rattle.std.specs.Prelude.{ℕ}
use Rattle.hypercube.specs.declared.Refusal.{Refusal}
use Rattle.hypercube.specs.declared.Refusal.TheVariants.{NotARecord, ShortReply, WrongLength, UnknownKind, WrongSize, NoJob, LargeDimension, NoNode}
use Rattle.hypercube.specs.declared.Refusal.TheVariants.{UnknownStrategy, HoldsNodes, HoldsNone, WrongReport, NodesHeld, NoFreeMember, NotMore, NotFormed}

abbrev pub refusal_number : Refusal → ℕ
refusal_number NotARecord = 1
refusal_number ShortReply = 2
refusal_number WrongLength = 3
refusal_number UnknownKind = 4
refusal_number WrongSize = 5
refusal_number NoJob = 6
refusal_number LargeDimension = 7
refusal_number NoNode = 8
refusal_number UnknownStrategy = 9
refusal_number HoldsNodes = 10
refusal_number HoldsNone = 11
refusal_number WrongReport = 12
refusal_number NodesHeld = 13
refusal_number NoFreeMember = 14
refusal_number NotMore = 17
refusal_number NotFormed = 18
