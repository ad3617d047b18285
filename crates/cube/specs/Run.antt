-- A list of calls on one record. Document 01, the paragraph of demand 3: "A call in it is any bytes as a frame, with any reply buffer; neither is
-- part of the record."
use Rattle.std.specs.Prelude.{ℕ, List, length}
use Rattle.history.specs.Calls.{Call, Log, start, ◌then◌}
use Rattle.history.specs.Account.{History, fresh}
use Rattle.hypercube.specs.Replies.{heard}
use Rattle.history.specs.Verdicts.{after}
use Rattle.history.specs.Held.{Held, held_after}
use Rattle.cube.specs.Called.{Program}

pub record Exchange : Type 0 where
  pub frame : List ℕ
  pub buffer : List ℕ

-- a list of them, first to last
infixl 20 ◌next◌
pub data Exchanges : Type 0 where
  begin : Exchanges
  ◌next◌ : Exchanges → Exchange → Exchanges

-- what the history is fed: "n, each call's frame and the length of its reply buffer, never the record or a reply"
abbrev pub fed : Exchange → Call
fed e = record { frame = e.frame; room = length e.buffer }

abbrev pub feed : Exchanges → Log
feed begin = start
feed (es next e) = feed es then fed e

-- the program P on the record r, at which the list begins
module _ (P : Program) (r : List ℕ) where
  -- each call gets the record that the last one left
  abbrev pub record_after : Exchanges → List ℕ
  record_after begin = r
  record_after (es next e) = P.call_record (record_after es) e.frame e.buffer

  -- what the call e is answered after the calls es
  abbrev pub number : Exchanges → Exchange → ℕ
  number es e = P.call_number (record_after es) e.frame e.buffer

  abbrev pub reply : Exchanges → Exchange → List ℕ
  reply es e = P.call_reply (record_after es) e.frame e.buffer

  -- "A held subcube is the one that a job was last granted, if no release by that job was accepted since", by what was replied;
  -- gs are held where the list begins
  abbrev pub held_at : List Held → Exchanges → List Held
  held_at gs begin = gs
  held_at gs (es next e) = held_after (feed es) (fed e) (heard (number es e) (reply es e)) (held_at gs es)

-- the history after the calls es, from s
abbrev pub history_from : ℕ → History → Exchanges → History
history_from n s es = after n s (feed es)

-- on a fresh cube
abbrev pub history_at : ℕ → Exchanges → History
history_at n es = history_from n fresh es
