-- Demand 3. Document 01: "Demand 3 is one claim about the list as a whole, and not a claim for each call."
use Rattle.std.specs.Prelude.{ℕ, ◌+◌, ◌*◌, ◌^◌, ◌<◌, ◌≤◌, ◌≡◌, ◌↔◌, ◌≢◌, true, List, length, get_or}
use Rattle.hypercube.specs.Lists.{In}
use Rattle.hypercube.specs.Labels.{node}
use Rattle.hypercube.specs.Choice.{is_best_fit}
use Rattle.hypercube.specs.declared.Subcube.{Subcube}
use Rattle.hypercube.specs.Words.{word}
use Rattle.hypercube.specs.Replies.{granted, number_of, replies}
use Rattle.history.specs.Calls.{kind, job, strategy, ask, asking}
use Rattle.history.specs.Account.{History, AllFree}
use Rattle.history.specs.Causes.{First, NoneMet, NoMemberFree, asked, earlier, causes}
use Rattle.hypercube.specs.declared.Reply.TheVariants.{Refused}
use Rattle.history.specs.Verdicts.{tried, verdict}
use Rattle.history.specs.Held.{Held, nodes}
use Rattle.history.specs.Claims.{FirstSuch, AllTried, HeldRight}
use Rattle.record.specs.Layout.{map_at, holders_at, conditions_at, stars_at, record_size, valid_record}
use Rattle.record.specs.Says.{says, formed_record}
use Rattle.cube.specs.Called.{Program}
use Rattle.cube.specs.Start.{Start, MayBegin}
use Rattle.cube.specs.Run.{Exchange, Exchanges, ◌next◌, fed, feed, record_after, number, reply, held_at, history_from}

-- a request or a growth is replied 'granted' with its job, the lowest node and star bits of the first free member of its family, and what was tried
pub record Gets (n : ℕ) (h : History) (e : Exchange) (p' : List ℕ) : Type 0 where
  pub member : Subcube
  pub place : ℕ
  pub in_family : In member (asked n (ask (fed e)))
  pub free : AllFree h (ask (fed e)) member
  pub first : FirstSuch (is_best_fit (strategy (fed e))) n h (ask (fed e)) member place
  pub replied : p'
      ≡ replies (granted (job (fed e)) (node h.directions member.low.0) (node h.directions member.stars) place) e.buffer

-- the call e is answered m and p', by the history h before it; r and r' are the record before and after
pub record Judged (n : ℕ) (h : History) (e : Exchange) (m : ℕ) (p' r r' : List ℕ) : Type 0 where
  -- refused with the number of the first cause met and with no other; accepted exactly when none is met
  pub refused_by_first : (q : ℕ) → q ≢ 0 → (m ≡ q) ↔ First (causes n) h (fed e) q
  pub accepted_by_none : (m ≡ 0) ↔ NoneMet (causes n) h (fed e)
  -- the number and the whole reply buffer are what the history says; a refusal leaves the record
  pub returned : m ≡ number_of (verdict n h (fed e))
  pub replied : p' ≡ replies (verdict n h (fed e)) e.buffer
  pub left : m ≢ 0 → r' ≡ r
  -- a refusal's reply has its number and what was tried, at 14 the family's whole count or the number of maximal free blocks
  pub refusal : (q : ℕ) → First (causes n) h (fed e) q → p' ≡ replies (Refused q (tried n h (fed e) q)) e.buffer
  pub all_tried : AllTried (is_best_fit (strategy (fed e))) n h (ask (fed e)) (tried n h (fed e) 14)
  -- a request or a growth that meets no earlier cause: 'none free' exactly when no member of its family is all good and unheld by others,
  -- otherwise the first such
  pub none_free : In (kind (fed e)) asking → NoneMet (earlier n) h (fed e) → (m ≡ 14) ↔ NoMemberFree n h (ask (fed e))
  pub gets_first : In (kind (fed e)) asking → NoneMet (earlier n) h (fed e) → ¬ NoMemberFree n h (ask (fed e)) → Gets n h e p'

-- the record's bytes r are the history's: "its holders and conditions are compared below 2^n and its map up to n, and entries of these beyond that
-- stay as set-up left them", or as they were where the list began, in r₀; so are its star bits
pub record Recorded (n : ℕ) (h : History) (r₀ r : List ℕ) : Type 0 where
  pub whole : length r ≡ record_size
  pub valid : valid_record r ≡ true
  pub dimension : get_or r 4 0 ≡ n
  pub directions : (i : ℕ) → i < n → get_or r (map_at + i) 0 ≡ get_or h.directions i 0
  pub holders : (x : ℕ) → x < 2 ^ n → word r (holders_at + 2 * x) ≡ h.holder x
  pub conditions : (x : ℕ) → x < 2 ^ n → get_or r (conditions_at + x) 0 ≡ h.condition x
  pub stars : (x : ℕ) → x < 2 ^ n → word r (stars_at + 2 * x) ≡ h.stars x
  pub directions_beyond : (i : ℕ) → n ≤ i → i < 10 → get_or r (map_at + i) 0 ≡ get_or r₀ (map_at + i) 0
  pub holders_beyond : (x : ℕ) → 2 ^ n ≤ x → x < 1024 → word r (holders_at + 2 * x) ≡ word r₀ (holders_at + 2 * x)
  pub conditions_beyond : (x : ℕ) → 2 ^ n ≤ x → x < 1024 → get_or r (conditions_at + x) 0 ≡ get_or r₀ (conditions_at + x) 0
  pub stars_beyond : (x : ℕ) → 2 ^ n ≤ x → x < 1024 → word r (stars_at + 2 * x) ≡ word r₀ (stars_at + 2 * x)

-- of the program P, for a list that begins at a: every list of calls, and every call after it
module _ (P : Program) (a : Start) where
  abbrev history_then : Exchanges → History
  history_then = history_from a.dimension a.history

  abbrev record_then : Exchanges → List ℕ
  record_then = record_after P a.bytes

  abbrev held_then : Exchanges → List Held
  held_then = held_at P a.bytes a.held

  pub record ListRight : Type 0 where
    pub calls : (es : Exchanges) (e : Exchange)
        → Judged a.dimension (history_then es) e (number P a.bytes es e) (reply P a.bytes es e) (record_then es) (record_then (es next e))
    pub recorded : (es : Exchanges) → Recorded a.dimension (history_then es) a.bytes (record_then es)
    pub held : (es : Exchanges) → HeldRight a.dimension a.history (feed es) (held_then es)
    -- document 02, (f): "every node of a job carries the same value, the one that its last grant replied", and one that is unheld 0
    pub starred : (es : Exchanges) (g : Held) → In g (held_then es) → (x : ℕ) → In x (nodes g)
        → word (record_then es) (stars_at + 2 * x) ≡ g.stars
    pub unstarred : (es : Exchanges) (x : ℕ) → x < 1024 → word (record_then es) (holders_at + 2 * x) ≡ 0 → word (record_then es) (stars_at + 2 * x) ≡ 0
    -- document 02, (g): "The host stores records and hands them in again": the record that the list leaves loads, and says the history
    pub loads : (es : Exchanges) → P.load_number (record_then es) ≡ 0
    pub resumes : (es : Exchanges) → says (record_then es) ≡ history_then es

-- the loading call answers m on the bytes r: 1 by refusal 1's test; then 18 exactly where some job's nodes and star bits don't form a subcube; else 0
pub record Tests (r : List ℕ) (m : ℕ) : Type 0 where
  pub refused_1 : (m ≡ 1) ↔ (¬ (valid_record r ≡ true))
  pub refused_18 : (m ≡ 18) ↔ ((valid_record r ≡ true) × (¬ (formed_record r).Met))
  pub passed : (m ≡ 0) ↔ ((valid_record r ≡ true) × (formed_record r).Met)

-- for every record that set-up left or that the loading call lets through, and every list of calls from it
pub record Demand3 (P : Program) : Type 0 where
  pub set_up : (n : ℕ) → n ≤ 10 → (b : List ℕ) → length b ≡ record_size → P.setup_number b n ≡ 0
  pub loading : (r : List ℕ) → Tests r (P.load_number r)
  pub lists : (a : Start) → MayBegin P a → ListRight P a
