-- The outcome of a frame, and the record after it. Document 01, "Log program".
use Rattle.std.specs.Prelude.{ℕ, ◌≡◌, cond, not, ◌||◌, List, eqb, ltb, length, replicate, Result, Ok, Err}
use Rattle.hypercube.specs.Words.{word}
use Rattle.hypercube.specs.Replies.{heard}
use Rattle.tally.specs.declared.Outcome.{Outcome}
use Rattle.tally.specs.declared.Outcome.TheVariants as outcome
use Rattle.hypercube.specs.declared.Refusal.{Refusal}
use Rattle.hypercube.specs.Refusals.{refusal_number}
use Rattle.hypercube.specs.declared.Reply.{Reply}
use Rattle.hypercube.specs.declared.Reply.TheVariants.{Granted, Refused, Done}
use Rattle.cube.specs.Called.{setup_number, setup_record, call_number, call_record, call_reply}

-- "first a set-up (0x0301, length 6, field n)"; "A first frame that isn't a right set-up is refused with 3, 4, 5 or 7", judged as a call's causes are
unfoldable pub first_number : List ℕ → List ℕ → ℕ
first_number r f =
    cond (ltb (length f) 4 || not (eqb (word f 0) (length f))) 3
    (cond (not (eqb (word f 2) 0x0301)) 4
    (cond (not (eqb (length f) 6)) 5 (setup_number r (word f 4))))

unfoldable pub first_record : List ℕ → List ℕ → List ℕ
first_record r f = cond (eqb (first_number r f) 0) (setup_record r (word f 4)) r

-- "Fields are the reply's, in order"
abbrev pub told : Reply → Outcome
told (Granted j low stars t) = outcome.Granted j low.0 stars t
told (Refused m t) = outcome.Refused m t
told (Done v) = outcome.Done v

-- the reply buffer of every later frame
abbrev pub zeros : List ℕ
zeros = replicate 12 0

-- a later frame is a call, to which a set-up is no known kind: "a later set-up is refused 4"
unfoldable pub later_outcome : List ℕ → List ℕ → Outcome
later_outcome r f = told (heard (call_number r f zeros) (call_reply r f zeros))

unfoldable pub later_record : List ℕ → List ℕ → List ℕ
later_record r f = call_record r f zeros

-- 0 where it is set up, or the number of its refusal
abbrev pub number_of : Result (Unit {0}) Refusal → ℕ
number_of (Ok u) = 0
number_of (Err e) = refusal_number e

-- the contracts: the number or the outcome, and the record's bytes afterwards
abbrev pub First : List ℕ → List ℕ → Result (Unit {0}) Refusal → List ℕ → Type 0
First r f t r' = (number_of t ≡ first_number r f) × (r' ≡ first_record r f)

pub record Later (r f : List ℕ) (told : Outcome) (r' : List ℕ) : Type 0 where
  pub outcome : told ≡ later_outcome r f
  pub «record» : r' ≡ later_record r f
