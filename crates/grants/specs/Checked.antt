-- The checks of a request or a growth, and what a check in the code answers: nothing, or the refusal.
use Rattle.std.specs.Prelude.{ℕ, ◌^◌, not, List, [], ◌∷◌, eqb, leb, Result, Ok, Err}
use Rattle.hypercube.specs.declared.Refusal.{Refusal}
use Rattle.hypercube.specs.declared.Reply.{Reply}
use Rattle.hypercube.specs.declared.Reply.TheVariants.{Refused}
use Rattle.hypercube.specs.Refusals.{refusal_number}
use Rattle.hypercube.specs.Checks.{Check, ◌check◌}
use Rattle.state.specs.declared.State.{State}
use Rattle.state.specs.declared.Step.{Step}
use Rattle.state.specs.Acts.{refuse}

-- an answer's number: 0 for nothing
abbrev pub cause_number : Result (Unit {0}) Refusal → ℕ
cause_number (Ok x) = 0
cause_number (Err e) = refusal_number e

-- the step t after that answer
abbrev pub checked : State → Result (Unit {0}) Refusal → Step → Step
checked s (Ok x) t = t
checked s (Err e) t = refuse s (refusal_number e)

-- the reply that an answer stands for
abbrev pub replied : Result Reply Refusal → Reply
replied (Ok told) = told
replied (Err e) = Refused (refusal_number e) 0

-- of a job that holds so many nodes, and asks for a subcube of dimension k
abbrev pub request_checks : ℕ → List Check
request_checks held = 10 check not (eqb held 0) ∷ []

abbrev pub growth_checks : ℕ → ℕ → List Check
growth_checks held k = 11 check eqb held 0 ∷ 17 check leb (2 ^ k) held ∷ []
