-- Document 02, (a): "Of those with dimension at least k it takes the smallest, then the lowest label", and "Tried is the number of maximal free
-- blocks, granted or not". Two programs that do otherwise on a request, and so break demand 3.
use Rattle.std.specs.Prelude.{ℕ, cond, List, eqb}
use Rattle.hypercube.specs.declared.Reply.{Reply}
use Rattle.hypercube.specs.declared.Reply.TheVariants.{Granted, Refused, Done}
use Rattle.state.specs.Effects.{step}
use Rattle.weak.specs.Programs.{Asks, request_step, by_requests}
use Rattle.weak.specs.Parts.{ReplyRight, Breaks}

-- one that takes buddy's first free member under strategy 4 too
abbrev pub first_fit : Asks
first_fit s j k f = request_step s j k (cond (eqb f 4) 0 f)

-- one that counts the blocks of dimension at least k alone: where no member is free there are none
abbrev pub large_only : Reply → Reply
large_only (Granted j low stars t) = Granted j low stars t
large_only (Refused m t) = Refused m 0
large_only (Done v) = Done v

abbrev pub large_counted : Asks
large_counted s j k f = step (request_step s j k f).state (large_only (request_step s j k f).reply)

-- on any buffer of the record's size, b
pub record BestFitsRefuted (b : List ℕ) : Type 0 where
  pub first_taken : Breaks ReplyRight (by_requests first_fit) 2 b
  pub large_counted : Breaks ReplyRight (by_requests large_counted) 1 b
