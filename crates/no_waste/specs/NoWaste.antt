-- No waste with one dead node. Document 02, (n): "Take a cube without a line or a hall, with at most one node not good and nothing held, and any list
-- of plain requests (0x0201) by distinct jobs under strategy 4 that meet none of 1 to 9, with no other call between them: each is granted exactly
-- when its size is at most the count of free nodes left by the grants before it." Said of the history, and of what a program's calls return and
-- reply. No cube has a line or a hall yet.
use Rattle.std.specs.Prelude.{ℕ, ◌+◌, ◌^◌, ◌<◌, ◌≤◌, ◌≡◌, ◌↔◌, ◌≢◌, List, [], ◌∷◌}
use Rattle.hypercube.specs.Lists.{Distinct, count_below}
use Rattle.hypercube.specs.Conditions.{Condition, ◌is◌, ◌and◌}
use Rattle.hypercube.specs.Replies.{number_of, heard}
use Rattle.hypercube.specs.declared.Reply.{Reply}
use Rattle.hypercube.specs.declared.Reply.TheVariants.{Granted, Refused, Done}
use Rattle.history.specs.Calls.{Call, request, kind, job, dimension, strategy, Log, start, ◌then◌}
use Rattle.history.specs.Account.{History}
use Rattle.history.specs.Causes.{Row, Met, causes}
use Rattle.history.specs.Verdicts.{after, verdicts}
use Rattle.cube.specs.Called.{Program}
use Rattle.cube.specs.Start.{Start, MayBegin}
use Rattle.cube.specs.Run.{Exchange, Exchanges, begin, ◌next◌, fed, feed, record_after, number, reply, history_from}

-- "a cube [..] with at most one node not good and nothing held", of dimension n: two of its nodes that aren't good are the same
pub record OneDead (n : ℕ) (h : History) : Type 0 where
  pub at_most_one : (x y : ℕ) → x < 2 ^ n → y < 2 ^ n → h.condition x ≢ 1 → h.condition y ≢ 1 → x ≡ y
  pub nothing_held : (x : ℕ) → x < 2 ^ n → h.holder x ≡ 0

-- the call meets none of the rows numbered up to m; by the history no call meets cause 1
abbrev pub NoneUpTo : ℕ → List Row → History → Call → Type 0
NoneUpTo m [] h c = Unit {0}
NoneUpTo m (r ∷ rs) h c = (r.number ≤ m → ¬ Met r h c) × NoneUpTo m rs h c

-- "plain requests (0x0201) [..] under strategy 4 that meet none of 1 to 9": c is one, by the history h before it
pub record Plain (n : ℕ) (h : History) (c : Call) : Type 0 where
  pub requests : kind c ≡ request
  pub best_fit : strategy c ≡ 4
  pub meets_none : NoneUpTo 9 (causes n) h c

-- "with no other call between them": every call of the list is one
abbrev pub AllPlain : ℕ → History → Log → Type 0
AllPlain n s start = Unit {0}
AllPlain n s (l then c) = AllPlain n s l × Plain n (after n s l) c

-- "by distinct jobs": no job stands twice in the list
abbrev pub jobs : Log → List ℕ
jobs start = []
jobs (l then c) = job c ∷ jobs l

-- "any list of [such] requests", from s
pub record Requests (n : ℕ) (s : History) (l : Log) : Type 0 where
  pub plain : AllPlain n s l
  pub distinct : Distinct (jobs l)

-- "A node is free if it is good and unheld", and then to any job; "the count of free nodes"
abbrev pub free_to_any : History → ℕ → Condition
free_to_any h x = (h.condition x is 1) and (h.holder x is 0)

abbrev pub free_nodes : ℕ → History → ℕ
free_nodes n h = count_below (2 ^ n) (λ x. (free_to_any h x).test)

-- a call is granted a subcube; the size of what it is granted
abbrev pub IsGranted : Reply → Type 0
IsGranted (Granted j low stars t) = Unit {0}
IsGranted (Refused m t) = ⊥
IsGranted (Done v) = ⊥

abbrev pub size_granted : Call → Reply → ℕ
size_granted c (Granted j low stars t) = 2 ^ dimension c
size_granted c (Refused m t) = 0
size_granted c (Done v) = 0

-- the request c is told v, by the history h before it: "granted exactly when its size is at most the count of free nodes", and else 'none free'
pub record Exact (n : ℕ) (h : History) (c : Call) (v : Reply) : Type 0 where
  pub granted_when : IsGranted v ↔ (2 ^ dimension c ≤ free_nodes n h)
  pub else_none_free : free_nodes n h < 2 ^ dimension c → number_of v ≡ 14

-- ---- of the history: every list of such requests from s, and each of them, c after l

abbrev pub sizes_granted : (Log → Call → Reply) → Log → ℕ
sizes_granted told start = 0
sizes_granted told (l then c) = size_granted c (told l c) + sizes_granted told l

pub record NoWaste (n : ℕ) (s : History) : Type 0 where
  pub each : (l : Log) (c : Call) → Requests n s (l then c) → Exact n (after n s l) c (verdicts n s l c)
  -- "left by the grants before it": the count is that at the start less the sizes granted
  pub left : (l : Log) → Requests n s l → free_nodes n (after n s l) + sizes_granted (verdicts n s) l ≡ free_nodes n s

-- ---- of the program P: the same of what its calls return and reply, from the record r of a cube of dimension n, where the history is s

module _ (P : Program) (r : List ℕ) where
  -- what the call e is told after the calls es
  abbrev pub replied : Exchanges → Exchange → Reply
  replied es e = heard (number P r es e) (reply P r es e)

  abbrev pub sizes_replied : Exchanges → ℕ
  sizes_replied begin = 0
  sizes_replied (es next e) = size_granted (fed e) (replied es e) + sizes_replied es

pub record NoWasteReplied (P : Program) (n : ℕ) (r : List ℕ) (s : History) : Type 0 where
  pub each : (es : Exchanges) (e : Exchange) → Requests n s (feed es then fed e) → Exact n (history_from n s es) (fed e) (replied P r es e)
  pub left : (es : Exchanges) → Requests n s (feed es) → free_nodes n (history_from n s es) + sizes_replied P r es ≡ free_nodes n s

-- from every record that a list of calls leaves, wherever the list began, and so from every record that set-up left or that the loading call lets
-- through; under any map, since the record has any
pub record Promise (P : Program) : Type 0 where
  pub lists : (a : Start) → MayBegin P a → (before : Exchanges) → OneDead a.dimension (history_from a.dimension a.history before)
      → NoWasteReplied P a.dimension (record_after P a.bytes before) (history_from a.dimension a.history before)
