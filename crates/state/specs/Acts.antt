-- The calls: a line a call in each of three tables, its fields, its checks and its effect. A call on a state is refused by the first of its checks
-- that it meets, or else has its effect. Document 01, "Six calls and their frames" and "When a call says no".
use Rattle.std.specs.Prelude.{ℕ, ◌^◌, not, cond, List, [], ◌∷◌, ◌++◌, eqb, leb, get_or}
use Rattle.std.proofs.Math.Option.{Option, none, some}
use Rattle.hypercube.specs.Words.{word}
use Rattle.hypercube.specs.Checks.{Check, ◌check◌}
use Rattle.hypercube.specs.declared.Reply.TheVariants.{Refused}
use Rattle.history.specs.Calls.{Kind, good, fault, repaired, relabel, request, release, grow, other, offered}
use Rattle.state.specs.declared.State.{State}
use Rattle.state.specs.declared.Call.{Call}
use Rattle.state.specs.declared.Call.TheVariants.{Good, Fault, Repaired, Relabel, Request, Release, Grow}
use Rattle.state.specs.declared.Step.{Step}
use Rattle.state.specs.Valid.{valid}
use Rattle.state.specs.Checks.{holds, held_by, any_held, report_checks, field_checks}
use Rattle.state.specs.Effects.{step, Effect, Sets, Relabels, Grants, Releases, effected}

-- the call of a frame of this kind, by its fields
unfoldable pub call_of : List ℕ → Kind → Option Call
call_of f good = some (Good (record { 0 = word f 4 }))
call_of f fault = some (Fault (record { 0 = word f 4 }))
call_of f repaired = some (Repaired (record { 0 = word f 4 }))
call_of f relabel = some Relabel
call_of f request = some (Request (word f 4) (get_or f 6 0) (get_or f 7 0))
call_of f release = some (Release (word f 4))
call_of f grow = some (Grow (word f 4) (get_or f 6 0) (get_or f 7 0))
call_of f other = none

-- its checks, in the table's order; 17 is document 02's, (e): "2^k not more than the nodes held; after 11"
abbrev pub checks_of : State → Call → List Check
checks_of s (Good x) = report_checks s x.0 1
checks_of s (Fault x) = report_checks s x.0 2
checks_of s (Repaired x) = report_checks s x.0 0
checks_of s Relabel = 13 check any_held s ∷ []
checks_of s (Request j k f) = field_checks s (offered request) j k f ++ 10 check holds s j ∷ []
checks_of s (Release j) = 6 check eqb j 0 ∷ 11 check not (holds s j) ∷ []
checks_of s (Grow j k f) = field_checks s (offered grow) j k f ++ 11 check not (holds s j) ∷ 17 check leb (2 ^ k) (held_by s j) ∷ []

-- what it does that none of them stops
abbrev pub effect_of : Call → Effect
effect_of (Good x) = Sets x.0 1
effect_of (Fault x) = Sets x.0 2
effect_of (Repaired x) = Sets x.0 0
effect_of Relabel = Relabels
effect_of (Request j k f) = Grants j k f
effect_of (Release j) = Releases j
effect_of (Grow j k f) = Grants j k f

-- "the same numbers with the state as it came"
abbrev pub refuse : State → ℕ → Step
refuse s m = step s (Refused m 0)

-- the refusal of the first check that is met, or else t
unfoldable pub guarded : State → List Check → Step → Step
guarded s [] t = t
guarded s (k ∷ ks) t = cond k.met (refuse s k.number) (guarded s ks t)

-- a report that node x is in condition v
abbrev pub report_step : State → ℕ → ℕ → Step
report_step s x v = guarded s (report_checks s x v) (effected s (Sets x v))

-- any call, on a state that is as "Node and record" says
abbrev pub acted : State → Call → Step
acted s c = guarded s (checks_of s c) (effected s (effect_of c))

-- on any state: 1 comes before the others
abbrev pub called : State → Call → Step
called s c = cond (valid s) (acted s c) (refuse s 1)
