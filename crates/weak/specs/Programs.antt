-- Document 01, "Programs that would pass a weak contract". Each differs from the delivered program in what it does on a request.
use Rattle.std.specs.Prelude.{ℕ, ◌-◌, ◌^◌, cond, List, eqb, ltb, length, Result, Ok, Err}
use Rattle.hypercube.specs.Bits.{width}
use Rattle.hypercube.specs.Subcubes.{vertices}
use Rattle.hypercube.specs.Families.{family}
use Rattle.hypercube.specs.Refusals.{refusal_number}
use Rattle.hypercube.specs.declared.Refusal.{Refusal}
use Rattle.hypercube.specs.declared.Reply.{Reply}
use Rattle.hypercube.specs.declared.Reply.TheVariants.{Granted, Refused, Done}
use Rattle.hypercube.specs.Replies.{granted, number_of, frame_of, written}
use Rattle.state.specs.declared.State.{State}
use Rattle.state.specs.declared.Call.{Call}
use Rattle.state.specs.declared.Call.TheVariants.{Good, Fault, Repaired, Relabel, Request, Release, Grow}
use Rattle.state.specs.declared.Step.{Step}
use Rattle.state.specs.States.{taken}
use Rattle.state.specs.Checks.{any_held}
use Rattle.state.specs.Effects.{step}
use Rattle.state.specs.Acts.{refuse, acted}
use Rattle.record.specs.Layout.{encode, decode, valid_record}
use Rattle.frames.specs.Parse.{parsed}
use Rattle.cube.specs.Called.{Program, setup_number, setup_record, load_number}

-- what a call does to a state
abbrev pub Acts : Type 0
Acts = State → Call → Step

abbrev pub step_by : Acts → State → Result Call Refusal → Step
step_by a s (Ok c) = a s c
step_by a s (Err e) = refuse s (refusal_number e)

unfoldable pub number_by : Acts → List ℕ → List ℕ → List ℕ → ℕ
number_by a r f p = cond (valid_record r) (cond (ltb (length p) 12) 2 (number_of (step_by a (decode r) (parsed f)).reply)) 1

unfoldable pub record_by : Acts → List ℕ → List ℕ → List ℕ → List ℕ
record_by a r f p = cond (eqb (number_by a r f p) 0) (encode (step_by a (decode r) (parsed f)).state) r

unfoldable pub reply_by : Acts → List ℕ → List ℕ → List ℕ → List ℕ
reply_by a r f p = cond (valid_record r) (cond (ltb (length p) 12) p (written (frame_of (step_by a (decode r) (parsed f)).reply) p)) p

-- the program that does this on a call
abbrev pub by : Acts → Program
by a = record {
  setup_number = setup_number;
  setup_record = setup_record;
  load_number = load_number;
  call_number = number_by a;
  call_record = record_by a;
  call_reply = reply_by a;
}

-- what a request or a growth by job j for dimension k under strategy f does to a state
abbrev pub Asks : Type 0
Asks = State → ℕ → ℕ → ℕ → Step

-- the delivered program's
abbrev pub relabel_step : State → Step
relabel_step s = acted s Relabel

abbrev pub request_step : Asks
request_step s j k f = acted s (Request j k f)

abbrev pub grow_step : Asks
grow_step s j k f = acted s (Grow j k f)

-- what a release by job j does to a state
abbrev pub Releases : Type 0
Releases = State → ℕ → Step

abbrev pub release_step : Releases
release_step s j = acted s (Release j)

-- the program that does these on a relabel, a request, a growth and a release, and is otherwise the delivered one
abbrev pub doing : (State → Step) → Asks → Asks → Releases → Acts
doing l q g e s (Good x) = acted s (Good x)
doing l q g e s (Fault x) = acted s (Fault x)
doing l q g e s (Repaired x) = acted s (Repaired x)
doing l q g e s Relabel = l s
doing l q g e s (Request j k f) = q s j k f
doing l q g e s (Release j) = e s j
doing l q g e s (Grow j k f) = g s j k f

abbrev pub requesting : Asks → Acts
requesting q = doing relabel_step q grow_step release_step

abbrev pub by_requests : Asks → Program
by_requests q = by (requesting q)

-- "answers 14 to each request"
abbrev pub answers14 : Asks
answers14 s j k f = step s (Refused 14 (length (family f s.n k)))

-- "says 'none free' with the walk unstarted"
abbrev pub unstarted : Asks
unstarted s j k f = step s (Refused 14 0)

-- "grants the lowest subcube to everybody"
abbrev pub lowest : Asks
lowest s j k f =
    let stars = 2 ^ k - 1 in
    step (taken s (vertices width stars 0) j stars) (granted j 0 stars 1)

-- "replies 'granted', record unchanged"
abbrev pub unrecorded : Asks
unrecorded s j k f = step s (request_step s j k f).reply

-- "tracks the first job, later ones only in replies"
abbrev pub first_job : Asks
first_job s j k f = cond (any_held s) (unrecorded s j k f) (request_step s j k f)

-- "prints a plausible tried"
abbrev pub plausible : Reply → Reply
plausible (Granted j low stars t) = Granted j low stars 1
plausible (Refused m t) = Refused m t
plausible (Done v) = Done v

abbrev pub any_tried : Asks
any_tried s j k f = step (request_step s j k f).state (plausible (request_step s j k f).reply)
