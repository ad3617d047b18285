-- The first frame's number and the record after it, by each way out; and a later frame's outcome. Assumes nothing.
use Prim.Native.Nat.{ℕ, ◌<◌, ◌≤◌}
use mathlib.Core.Path.{◌≡◌, sym, ◌∙◌}
use mathlib.Core.Logic.{◌≢◌}
use mathlib.Core.List.{List}
use native.Mathlib.Omega.{arith}
use borrow.Author.Tests.{lt-ltb, le-ltb, eq-eqb, ne_eqb, eqb-true}
use lib.Dec.{eqb, leb, ltb}
use lib.ListN.{length}
use Rattle.hypercube.specs.Words.{word}
use Rattle.hypercube.specs.Tests.{cases}
use Rattle.cube.specs.Called.{setup_number, setup_record, delivered, SetUp}
use Rattle.std.specs.Prelude.{Result, Err}
use Rattle.std.proofs.Common.{lit<}
use Rattle.hypercube.specs.declared.Refusal.{Refusal}
use Rattle.hypercube.specs.declared.Refusal.TheVariants.{NotARecord, ShortReply, WrongLength, UnknownKind, WrongSize, NoJob, LargeDimension, NoNode}
use Rattle.hypercube.specs.declared.Refusal.TheVariants.{UnknownStrategy, HoldsNodes, HoldsNone, WrongReport}
use Rattle.hypercube.specs.declared.Refusal.TheVariants.{NodesHeld, NoFreeMember, NotMore, NotFormed}
use Rattle.hypercube.specs.Refusals.{refusal_number}
use Rattle.record.specs.Layout.{record_size}
use Rattle.frame_log.specs.Frames.{first_number, first_record, number_of, First}

-- no refusal has the number 0
some : (e : Refusal) → 0 < refusal_number e
some e =
    elim e as (λ k. 0 < refusal_number k) [
      | NotARecord ↦ lit< tt
      | ShortReply ↦ lit< tt
      | WrongLength ↦ lit< tt
      | UnknownKind ↦ lit< tt
      | WrongSize ↦ lit< tt
      | NoJob ↦ lit< tt
      | LargeDimension ↦ lit< tt
      | NoNode ↦ lit< tt
      | UnknownStrategy ↦ lit< tt
      | HoldsNodes ↦ lit< tt
      | HoldsNone ↦ lit< tt
      | WrongReport ↦ lit< tt
      | NodesHeld ↦ lit< tt
      | NoFreeMember ↦ lit< tt
      | NotMore ↦ lit< tt
      | NotFormed ↦ lit< tt
    ]

pub some_number : (e : Refusal) → refusal_number e ≢ 0
some_number e = λ h. omega (arith, some e)

-- set-up's number is 0, 1 or 7
pub setup_7 : (r : List ℕ) (n m : ℕ) → m ≡ setup_number r n → m ≢ 0 → m ≢ 1 → m ≡ 7
unfolding setup_number
setup_7 r n m e z o =
    cases (eqb (length r) record_size) (λ a. cases (leb n 10) (λ b. absurd (z (rw (a, b) at e))) (λ b. rw (a, b) at e)) (λ a. absurd (o (rw a at e)))

module _ (r f : List ℕ) where
  refused : (e : Refusal) → first_number r f ≡ refusal_number e → First r f (Err e) r
  unfolding first_record
  refused e h = (sym h, rw (h, ne_eqb (refusal_number e) 0 (some_number e)))

  pub first_short : length f < 4 → First r f (Err WrongLength) r
  unfolding first_number
  first_short h = refused WrongLength (rw (lt-ltb (length f) 4 h))

  module _ (four : 4 ≤ length f) where
    pub first_length : word f 0 ≢ length f → First r f (Err WrongLength) r
    unfolding first_number
    first_length h = refused WrongLength (rw (le-ltb (length f) 4 four, ne_eqb (word f 0) (length f) h))

    module _ (right : word f 0 ≡ length f) where
      pub first_kind : word f 2 ≢ 0x0301 → First r f (Err UnknownKind) r
      unfolding first_number
      first_kind h =
          refused UnknownKind
          (rw (le-ltb (length f) 4 four, eq-eqb (word f 0) (length f) right, ne_eqb (word f 2) 0x0301 h))

      module _ (kind : word f 2 ≡ 0x0301) where
        pub first_size : length f ≢ 6 → First r f (Err WrongSize) r
        unfolding first_number
        first_size h =
            refused WrongSize
            (rw (le-ltb (length f) 4 four, eq-eqb (word f 0) (length f) right, eq-eqb (word f 2) 0x0301 kind, ne_eqb (length f) 6 h))

        pub set_up : length f ≡ 6 → first_number r f ≡ setup_number r (word f 4)
        unfolding first_number
        set_up h = rw (le-ltb (length f) 4 four, eq-eqb (word f 0) (length f) right, eq-eqb (word f 2) 0x0301 kind, eq-eqb (length f) 6 h)

        -- what set-up answered, as its number
        pub first_set_up : length f ≡ 6 → (n m : ℕ) (r' : List ℕ) → n ≡ word f 4 → SetUp delivered r n m r' → (t : Result (Unit {0}) Refusal)
            → number_of t ≡ m → First r f t r'
        unfolding first_record setup_record
        first_set_up h n m r' e s t k = (
          k ∙ s.returned ∙ rw e (sym (set_up h)),
          s.«record» ∙ rw (e, set_up h) (cases (eqb (setup_number r (word f 4)) 0) (λ t. rw t) (λ t. rw t)),
        )

  -- a first frame that is no refusal has 6 bytes
  pub set_up_size : first_number r f ≡ 0 → length f ≡ 6
  unfolding first_number
  set_up_size e =
      cases (ltb (length f) 4) (λ a. absurd (omega (arith, rw a at e))) (λ a.
      cases (eqb (word f 0) (length f)) (λ b.
      cases (eqb (word f 2) 0x0301) (λ d. cases (eqb (length f) 6) (λ g. eqb-true (length f) 6 g) (λ g. absurd (omega (arith, rw (a, b, d, g) at e))))
      (λ d. absurd (omega (arith, rw (a, b, d) at e)))
      ) (λ b. absurd (omega (arith, rw (a, b) at e)))
      )
