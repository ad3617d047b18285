-- Set-up, the loading call and the frame call on bytes: the number returned, the record and the reply afterwards. Document 01, "When a call says no";
-- document 02, (g).
use Rattle.std.specs.Prelude.{ℕ, cond, ◌≡◌, List, eqb, ltb, leb, length}
use Rattle.hypercube.specs.Replies.{number_of, frame_of, written}
use Rattle.state.specs.declared.Step.{Step}
use Rattle.state.specs.States.{fresh_state}
use Rattle.record.specs.Layout.{record_size, encode, decode, valid_record}
use Rattle.record.specs.Says.{formed_record}
use Rattle.frames.specs.Parse.{parsed}
pub use Rattle.frames.specs.Parse.{step_of}

-- "Set-up gives 1 for a buffer that isn't [the record's size], before 7"; document 02, (f): "Set-up and refusal 1 use the new size"
unfoldable pub setup_number : List ℕ → ℕ → ℕ
setup_number r n = cond (eqb (length r) record_size) (cond (leb n 10) 0 7) 1

unfoldable pub setup_record : List ℕ → ℕ → List ℕ
setup_record r n = cond (eqb (setup_number r n) 0) (encode (fresh_state n)) r

-- the loading call, on the bytes r: "18, a job's nodes and star bits don't form a subcube; after 1"
unfoldable pub load_number : List ℕ → ℕ
load_number r = cond (valid_record r) (cond (formed_record r).test 0 18) 1

unfoldable pub step_on : List ℕ → List ℕ → Step
step_on r f = step_of (decode r) (parsed f)

-- on the record r, the frame f and the reply buffer p
unfoldable pub call_number : List ℕ → List ℕ → List ℕ → ℕ
call_number r f p = cond (valid_record r) (cond (ltb (length p) 12) 2 (number_of (step_on r f).reply)) 1

unfoldable pub call_record : List ℕ → List ℕ → List ℕ → List ℕ
call_record r f p = cond (eqb (call_number r f p) 0) (encode (step_on r f).state) r

unfoldable pub call_reply : List ℕ → List ℕ → List ℕ → List ℕ
call_reply r f p = cond (valid_record r) (cond (ltb (length p) 12) p (written (frame_of (step_on r f).reply) p)) p

-- set-up, the loading call, "which writes nothing", and a frame call, as functions of the bytes lent
pub record Program : Type 0 where
  pub setup_number : List ℕ → ℕ → ℕ
  pub setup_record : List ℕ → ℕ → List ℕ
  pub load_number : List ℕ → ℕ
  pub call_number : List ℕ → List ℕ → List ℕ → ℕ
  pub call_record : List ℕ → List ℕ → List ℕ → List ℕ
  pub call_reply : List ℕ → List ℕ → List ℕ → List ℕ

-- the one delivered: the contracts of the three exported functions promise it, and demand 3 is proved of it
abbrev pub delivered : Program
delivered = record {
  setup_number = setup_number;
  setup_record = setup_record;
  load_number = load_number;
  call_number = call_number;
  call_record = call_record;
  call_reply = call_reply;
}

-- the contracts of set-up, of the loading call and of the frame call: the number, and the bytes afterwards, are the program's
pub record SetUp (P : Program) (r : List ℕ) (n : ℕ) (number : ℕ) (after : List ℕ) : Type 0 where
  pub returned : number ≡ P.setup_number r n
  pub «record» : after ≡ P.setup_record r n

pub record Loaded (P : Program) (r : List ℕ) (number : ℕ) : Type 0 where
  pub returned : number ≡ P.load_number r

pub record Called (P : Program) (r f p : List ℕ) (number : ℕ) (r' p' : List ℕ) : Type 0 where
  pub returned : number ≡ P.call_number r f p
  pub «record» : r' ≡ P.call_record r f p
  pub reply : p' ≡ P.call_reply r f p
