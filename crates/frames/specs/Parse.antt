-- Any bytes to a call, or to refusal 3, 4 or 5. Document 01, "Six calls and their frames"; the kinds and sizes are the history's, a kind's fields
-- those of its call.
use Rattle.std.specs.Prelude.{ℕ, not, cond, ◌||◌, List, eqb, ltb, length, Result, Ok, Err}
use Rattle.std.proofs.Math.Option.{Option, none, some}
use Rattle.hypercube.specs.Words.{word}
use Rattle.hypercube.specs.Refusals.{refusal_number}
use Rattle.hypercube.specs.declared.Refusal.{Refusal}
use Rattle.hypercube.specs.declared.Refusal.TheVariants.{WrongLength, UnknownKind, WrongSize}
use Rattle.history.specs.Calls.{Kind, kind_of, size}
use Rattle.state.specs.declared.State.{State}
use Rattle.state.specs.declared.Call.{Call}
use Rattle.state.specs.declared.Step.{Step}
use Rattle.state.specs.Acts.{call_of, refuse, acted}

-- cause 4 where the kind has no call, then cause 5 where the frame's size isn't the kind's
unfoldable pub sized : List ℕ → Kind → Option Call → Result Call Refusal
sized f k none = Err UnknownKind
sized f k (some c) = cond (eqb (length f) (size k)) (Ok c) (Err WrongSize)

abbrev pub by_kind : List ℕ → Kind → Result Call Refusal
by_kind f k = sized f k (call_of f k)

unfoldable pub parsed : List ℕ → Result Call Refusal
parsed f = cond (ltb (length f) 4 || not (eqb (word f 0) (length f))) (Err WrongLength) (by_kind f (kind_of (word f 2)))

-- what was read, in document 01's numbers and values: a call does to a state what that call does; any other frame is refused with its number,
-- 3, 4 or 5, and tried 0, with the state as it came
abbrev pub step_of : State → Result Call Refusal → Step
step_of s (Ok c) = acted s c
step_of s (Err e) = refuse s (refusal_number e)
