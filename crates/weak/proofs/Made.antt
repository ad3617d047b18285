-- What a program answers that differs from the delivered one in what it does on some calls. Assumes nothing.
use Prim.Native.Nat.{ℕ}
use mathlib.Core.Path.{◌≡◌}
use mathlib.Core.Bool.{true, false}
use mathlib.Core.List.{List}
use borrow.Author.Tests.{eq-eqb}
use lib.Dec.{ltb}
use lib.ListN.{length}
use Rattle.hypercube.specs.Replies.{number_of, frame_of, written}
use Rattle.state.specs.declared.Call.{Call}
use Rattle.state.specs.Acts.{acted}
use Rattle.record.specs.Layout.{encode, decode, valid_record}
use Rattle.std.specs.Prelude.{Ok}
use Rattle.frames.specs.Parse.{parsed}
use Rattle.cube.specs.Run.{Exchange}
use Rattle.cube.specs.Called.{step_on, call_number, call_record, call_reply}
use Rattle.weak.specs.Programs.{Acts, number_by, record_by, reply_by}

-- a call x that does what the delivered program does on y leaves the record that y leaves there, and is returned y's number
module _ (a : Acts) (r : List ℕ) (x y : Exchange) (c d : Call) (e : parsed x.frame ≡ Ok c) (f : parsed y.frame ≡ Ok d)
    (s : a (decode r) c ≡ acted (decode r) d) where
  pub other_record : record_by a r x.frame x.buffer ≡ call_record r y.frame x.buffer
  unfolding record_by number_by call_record call_number step_on
  other_record = rw (e, f, s)

  pub other_returned : number_by a r x.frame x.buffer ≡ call_number r y.frame x.buffer
  unfolding number_by call_number step_on
  other_returned = rw (e, f, s)

-- one that does what it does by the delivered program leaves the same record, and is answered the same
module _ (a : Acts) (r : List ℕ) (x : Exchange) (c : Call) (e : parsed x.frame ≡ Ok c) (s : a (decode r) c ≡ acted (decode r) c) where
  pub same_call : record_by a r x.frame x.buffer ≡ call_record r x.frame x.buffer
  same_call = other_record a r x x c c e e s

  pub same_returned : number_by a r x.frame x.buffer ≡ call_number r x.frame x.buffer
  same_returned = other_returned a r x x c c e e s

  pub same_reply : reply_by a r x.frame x.buffer ≡ call_reply r x.frame x.buffer
  unfolding reply_by call_reply step_on
  same_reply = rw (e, s)

-- a call on a record that is one, with room for a reply
module _ (a : Acts) (r : List ℕ) (x : Exchange) (c : Call) (e : parsed x.frame ≡ Ok c) (v : valid_record r ≡ true)
    (room : ltb (length x.buffer) 12 ≡ false) where
  pub number_is : number_by a r x.frame x.buffer ≡ number_of (a (decode r) c).reply
  unfolding number_by
  number_is = rw (e, v, room)

  pub reply_is : reply_by a r x.frame x.buffer ≡ written (frame_of (a (decode r) c).reply) x.buffer
  unfolding reply_by
  reply_is = rw (e, v, room)

  pub record_is : number_of (a (decode r) c).reply ≡ 0 → record_by a r x.frame x.buffer ≡ encode (a (decode r) c).state
  unfolding record_by
  record_is z = rw (number_is, eq-eqb _ 0 z, e)

  -- what the delivered program does
  pub delivered-number : call_number r x.frame x.buffer ≡ number_of (acted (decode r) c).reply
  unfolding call_number step_on
  delivered-number = rw (e, v, room)

  pub delivered-reply : call_reply r x.frame x.buffer ≡ written (frame_of (acted (decode r) c).reply) x.buffer
  unfolding call_reply step_on
  delivered-reply = rw (e, v, room)

  -- one that gives the same number and leaves the same state leaves the same record
  pub same_record : number_of (a (decode r) c).reply ≡ number_of (acted (decode r) c).reply → (a (decode r) c).state ≡ (acted (decode r) c).state
      → record_by a r x.frame x.buffer ≡ call_record r x.frame x.buffer
  unfolding record_by number_by call_record call_number step_on
  same_record m s = rw (e, m, s)
