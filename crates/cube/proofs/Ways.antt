-- Each way out of set-up, of the loading call and of the frame call. Assumes nothing.
use Prim.Native.Nat.{ℕ, zero, suc, ◌<◌, ◌≤◌}
use mathlib.Core.Logic.{◌≢◌}
use mathlib.Core.Path.{◌≡◌, refl, sym, ap, ◌∙◌}
use mathlib.Core.Bool.{true, false}
use mathlib.Core.List.{List}
use native.Mathlib.Omega.{arith}
use borrow.Author.Tests.{eq-eqb, ne_eqb, lt-ltb, le-ltb, lt-leb, le-leb}
use lib.ListN.{length, get_or}
use Rattle.hypercube.specs.Replies.{number_of, frame_of, written}
use Rattle.state.specs.declared.State.{State}
use Rattle.state.specs.declared.Call.{Call}
use Rattle.state.specs.Acts.{refuse}
use Rattle.std.specs.Prelude.{Result, Err}
use Rattle.hypercube.specs.Refusals.{refusal_number}
use Rattle.hypercube.specs.declared.Refusal.{Refusal}
use Rattle.hypercube.specs.declared.Reply.{Reply}
use Rattle.hypercube.specs.declared.Reply.TheVariants.{Refused}
use Rattle.state.specs.States.{fresh_state}
use Rattle.record.specs.Layout.{record_size, encode, decode, valid_record}
use Rattle.record.specs.Says.{formed_record}
use Rattle.record.proofs.Round.{record_says, encode-decode}
use Rattle.frames.specs.Parse.{parsed}
use Rattle.steps.specs.Carried.{Does}
use Rattle.steps.proofs.Ways.{refuses}
use Rattle.cube.specs.Called.{setup_number, setup_record, load_number, step_on, call_number, call_record, call_reply}
use Rattle.cube.specs.Called.{delivered, SetUp, Loaded, Called}
use Rattle.cube.specs.Carried.{CarriedFrame}

-- ---- set-up

module _ (r : List ℕ) (n : ℕ) where
  pub setup_1 : length r ≢ record_size → SetUp delivered r n 1 r
  unfolding setup_record setup_number
  setup_1 h = record { returned = rw (ne_eqb _ _ h); «record» = rw (ne_eqb _ _ h) }

  module _ (long : length r ≡ record_size) where
    pub setup_7 : 10 < n → SetUp delivered r n 7 r
    unfolding setup_record setup_number
    setup_7 h = record { returned = rw (eq-eqb _ _ long, lt-leb n 10 h); «record» = rw (eq-eqb _ _ long, lt-leb n 10 h) }

    pub setup_0 : n ≤ 10 → {s : State} → s ≡ fresh_state n → {r' : List ℕ} → r' ≡ encode s → SetUp delivered r n 0 r'
    unfolding setup_record setup_number
    setup_0 h e q = record {
      returned = rw (eq-eqb _ _ long, le-leb n 10 h);
      «record» = rw (eq-eqb _ _ long, le-leb n 10 h) (q ∙ ap encode e);
    }

-- ---- the loading call

module _ (r : List ℕ) where
  pub load_1 : valid_record r ≡ false → Loaded delivered r 1
  unfolding load_number
  load_1 h = record { returned = rw h }

  module _ (v : valid_record r ≡ true) where
    pub load_18 : (formed_record r).test ≡ false → Loaded delivered r 18
    unfolding load_number
    load_18 h = record { returned = rw (v, h) }

    pub load_0 : (formed_record r).test ≡ true → Loaded delivered r 0
    unfolding load_number
    load_0 h = record { returned = rw (v, h) }

-- ---- the frame call

-- a frame that is not read
refused_with : (r : List ℕ) → valid_record r ≡ true → ((i : ℕ) → get_or r i 0 < 256)
    → (m : ℕ) {told : Reply} → told ≡ Refused m 0 → Does r (refuse (decode r) m) told r
refused_with r v bytes zero a =
    record { replied = a; left = sym (encode-decode r (record_says r v).long bytes (record_says r v).head) }
refused_with r v bytes (suc m) a = refuses r (suc m) (λ z. absurd (omega arith)) refl a

pub frame_refused : (r : List ℕ) → valid_record r ≡ true → ((i : ℕ) → get_or r i 0 < 256)
    → (e : Refusal) {told : Reply} → told ≡ Refused (refusal_number e) 0 → CarriedFrame r (Err e) told r
frame_refused r v bytes e a = refused_with r v bytes (refusal_number e) a

-- a frame that is known to be another
pub by_frame : (r : List ℕ) {p q : Result Call Refusal} → p ≡ q → {told : Reply} {r' : List ℕ}
    → CarriedFrame r q told r' → CarriedFrame r p told r'
by_frame r e h = rw e h

module _ (r f p : List ℕ) where
  pub call_1 : valid_record r ≡ false → Called delivered r f p 1 r p
  unfolding call_number call_record call_reply
  call_1 h = record { returned = rw h; «record» = rw h; reply = rw h }

  module _ (v : valid_record r ≡ true) where
    pub call_2 : length p < 12 → Called delivered r f p 2 r p
    unfolding call_number call_record call_reply
    call_2 h = record {
      returned = rw (v, lt-ltb (length p) 12 h);
      «record» = rw (v, lt-ltb (length p) 12 h);
      reply = rw (v, lt-ltb (length p) 12 h);
    }

    -- told and r' are what the step does; p' is what is written
    pub call-told : 12 ≤ length p → {q : Result Call Refusal} → q ≡ parsed f → {told : Reply} {r' : List ℕ} → CarriedFrame r q told r'
        → {m : ℕ} → m ≡ number_of told → {p' : List ℕ} → p' ≡ written (frame_of told) p → Called delivered r f p m r' p'
    unfolding call_number call_record call_reply step_on
    call-told h {q} e {told} {r'} d {m} a {p'} b = record {
      returned = rw (v, le-ltb (length p) 12 h, ← e) (a ∙ ap number_of d.replied);
      «record» = rw (v, le-ltb (length p) 12 h, ← e) d.left;
      reply = rw (v, le-ltb (length p) 12 h, ← e) (b ∙ ap (λ (t : Reply). written (frame_of t) p) d.replied);
    }
