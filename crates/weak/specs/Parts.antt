-- The parts of the demands that the right-hand column of document 01's table names, as claims about a program; that each follows from demand 3, and
-- that the six break them.
use Rattle.std.specs.Prelude.{ℕ, ◌+◌, ◌*◌, ◌^◌, ◌<◌, ◌≤◌, ◌≡◌, List, [], length}
use Rattle.hypercube.specs.Lists.{In}
use Rattle.hypercube.specs.Words.{word}
use Rattle.hypercube.specs.declared.Reply.TheVariants.{Refused}
use Rattle.hypercube.specs.Replies.{replies}
use Rattle.history.specs.Calls.{kind, ask, asking}
use Rattle.history.specs.Causes.{First, NoneMet, NoMemberFree, earlier, causes}
use Rattle.history.specs.Verdicts.{tried, verdict}
use Rattle.history.specs.Held.{Disjoint}
use Rattle.record.specs.Layout.{holders_at, record_size}
use Rattle.cube.specs.Called.{Program}
use Rattle.cube.specs.Demand3.{Demand3}
use Rattle.cube.specs.Run.{Exchange, Exchanges, fed, record_after, number, reply, held_at, history_at}
use Rattle.weak.specs.Programs.{by_requests, answers14, unstarted, lowest, unrecorded, first_job, any_tried}

module _ (P : Program) (n : ℕ) (b : List ℕ) where
  -- the record that the list begins at
  abbrev r₀ : List ℕ
  r₀ = P.setup_record b n

  -- 3: 'none free' is said only where no member is free
  abbrev pub NoneFreeRight : Type 0
  NoneFreeRight =
      (es : Exchanges) (e : Exchange) → In (kind (fed e)) asking → NoneMet (earlier n) (history_at n es) (fed e) → number P r₀ es e ≡ 14
      → NoMemberFree n (history_at n es) (ask (fed e))

  -- 2 for tried: a refusal's reply has its number and what was tried
  abbrev pub RefusalRight : Type 0
  RefusalRight =
      (es : Exchanges) (e : Exchange) (q : ℕ) → First (causes n) (history_at n es) (fed e) q
      → reply P r₀ es e ≡ replies (Refused q (tried n (history_at n es) (fed e) q)) e.buffer

  -- 3: disjoint
  abbrev pub HeldDisjoint : Type 0
  HeldDisjoint = (es : Exchanges) → Disjoint (held_at P r₀ [] es)

  -- 2: record after the call; 3: over the list
  abbrev pub HoldersRight : Type 0
  HoldersRight = (es : Exchanges) (x : ℕ) → x < 2 ^ n → word (record_after P r₀ es) (holders_at + 2 * x) ≡ (history_at n es).holder x

  -- 2: place in the order
  abbrev pub ReplyRight : Type 0
  ReplyRight = (es : Exchanges) (e : Exchange) → reply P r₀ es e ≡ replies (verdict n (history_at n es) (fed e)) e.buffer

-- a program that meets demand 3 has the part, whichever it is; P is without it, and so does not meet demand 3
pub record Breaks (Part : Program → ℕ → List ℕ → Type 0) (P : Program) (n : ℕ) (b : List ℕ) : Type 0 where
  pub follows : (Q : Program) (m : ℕ) (c : List ℕ) → m ≤ 10 → length c ≡ record_size → Demand3 Q → Part Q m c
  pub part : ¬ Part P n b
  pub demand : ¬ Demand3 P

-- on any buffer of the record's size, b
pub record Refuted (b : List ℕ) : Type 0 where
  pub a_free_member_exists : Breaks NoneFreeRight (by_requests answers14) 0 b
  pub unstarted_free : Breaks NoneFreeRight (by_requests unstarted) 0 b
  pub unstarted_tried : Breaks RefusalRight (by_requests unstarted) 0 b
  pub not_disjoint : Breaks HeldDisjoint (by_requests lowest) 0 b
  pub record_unchanged : Breaks HoldersRight (by_requests unrecorded) 0 b
  pub over_the_list : Breaks HoldersRight (by_requests first_job) 1 b
  pub place_in_the_order : Breaks ReplyRight (by_requests any_tried) 1 b
