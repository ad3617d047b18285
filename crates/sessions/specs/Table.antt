-- The table. Document 01, "Sessions of known outcome": "a/b t" is lowest node, star bits, tried.
use Rattle.std.specs.Prelude.{not, List, [], ◌∷◌, ◌++◌, map, ℕ, ◌^◌}
use Rattle.hypercube.specs.Lists.{from, passing, among}
use Rattle.hypercube.specs.Labels.{label}
use Rattle.hypercube.specs.declared.Reply.{Reply}
use Rattle.hypercube.specs.declared.Reply.TheVariants.{Refused, Done}
use Rattle.hypercube.specs.Replies.{granted}
use Rattle.history.specs.Calls.{Call}
use Rattle.history.specs.Account.{fresh}
use Rattle.sessions.specs.Frames.{good, fault, relabel, request, after_all, verdicts_of}

-- on a fresh cube of dimension n the calls `before` are made, then `calls`; `told` is what these are told,
-- and `labels` are the labels that `nodes` have then
pub record Session : Type 0 where
  pub n : ℕ
  pub before : List Call
  pub calls : List Call
  pub nodes : List ℕ

pub record Outcome : Type 0 where
  pub told : List Reply
  pub labels : List ℕ

abbrev pub play : Session → Outcome
play s =
    let h = after_all s.n fresh s.before in
    record { told = verdicts_of s.n h s.calls; labels = map (label (after_all s.n h s.calls).directions) s.nodes }

abbrev pub goods : List ℕ → List Call
goods xs = map good xs

-- requests alone
abbrev pub requests : ℕ → List Call → List Call → Session
requests n before calls = record { n = n; before = before; calls = calls; nodes = [] }

-- rows 7 and 8: a relabel, and then the labels of the faulty nodes. Document 02, (b): "if all other nodes have reported good"
abbrev pub relabels : ℕ → List ℕ → Session
relabels n faulty =
    let others = passing (λ x. not (among x faulty)) (2 ^ n) in
    record { n = n; before = goods others ++ map fault faulty; calls = relabel ∷ []; nodes = faulty }

abbrev pub told : List Reply → Outcome
told vs = record { told = vs; labels = [] }

-- a relabel is told the size of D
abbrev pub labelled : ℕ → List ℕ → Outcome
labelled d ls = record { told = Done d ∷ []; labels = ls }

-- rows 1 to 3: n 4, all good, requests of k 0, 3, 2, 1, 0 by jobs 1 to 5
abbrev pub five : ℕ → Session
five s = requests 4 (goods (from 0 16)) (request 1 0 s ∷ request 2 3 s ∷ request 3 2 s ∷ request 4 1 s ∷ request 5 0 s ∷ [])

-- row 9: n 0, good, "any strategy", k 0
abbrev pub single : ℕ → Session
single s = requests 0 (goods (0 ∷ [])) (request 1 0 s ∷ [])

-- a row: its number, its sessions and their outcomes
pub record Row : Type 0 where
  pub number : ℕ
  pub sessions : List Session
  pub outcomes : List Outcome

abbrev pub row : ℕ → List Session → List Outcome → Row
row i ss os = record { number = i; sessions = ss; outcomes = os }

-- Row 2 has Gray's rule where document 000's figure 6 departs from it (its fourth request); row 7 has document 003's figure 5, which its text
-- '643215' contradicts; in row 10 an unconfirmed node is not free.
abbrev pub table : List Row
table =
    row 1 (five 0 ∷ []) (told (granted 1 0 0 1 ∷ granted 2 8 7 2 ∷ granted 3 4 3 2 ∷ granted 4 2 1 2 ∷ granted 5 1 0 2 ∷ []) ∷ [])
    ∷ row 2 (five 1 ∷ []) (told (granted 1 0 0 1 ∷ granted 2 4 11 2 ∷ granted 3 8 3 7 ∷ granted 4 1 2 2 ∷ granted 5 2 0 4 ∷ []) ∷ [])
    ∷ row 3 (five 2 ∷ []) (told (granted 1 0 0 1 ∷ granted 2 4 11 3 ∷ granted 3 2 9 5 ∷ granted 4 1 8 7 ∷ granted 5 8 0 9 ∷ []) ∷ [])
    ∷ row 4 (requests 4 (goods (0 ∷ 2 ∷ 8 ∷ 10 ∷ [])) (request 1 2 2 ∷ request 1 2 3 ∷ []) ∷ []) (told (Refused 14 12 ∷ granted 1 0 10 13 ∷ []) ∷ [])
    ∷ row 5 (requests 4 (goods (0 ∷ 2 ∷ 4 ∷ 6 ∷ [])) (request 1 2 3 ∷ []) ∷ []) (told (Refused 14 20 ∷ []) ∷ [])
    ∷ row 6 (requests 3 (fault 4 ∷ goods (0 ∷ 1 ∷ 2 ∷ 3 ∷ 5 ∷ 6 ∷ 7 ∷ [])) (request 1 1 0 ∷ request 2 2 0 ∷ []) ∷ [])
    (told (granted 1 0 1 1 ∷ Refused 14 2 ∷ []) ∷ [])
    ∷ row 7 (relabels 6 (21 ∷ 29 ∷ 5 ∷ []) ∷ []) (labelled 2 (22 ∷ 23 ∷ 20 ∷ []) ∷ [])
    ∷ row 8 (relabels 3 (0 ∷ 4 ∷ []) ∷ relabels 3 (0 ∷ 7 ∷ []) ∷ []) (labelled 1 (0 ∷ 1 ∷ []) ∷ labelled 3 (0 ∷ 7 ∷ []) ∷ [])
    ∷ row 9 (map single (from 0 5)) (map (λ s. told (granted 1 0 0 1 ∷ [])) (from 0 5))
    ∷ row 10 (requests 2 (goods (0 ∷ 1 ∷ 2 ∷ [])) (request 1 2 0 ∷ []) ∷ []) (told (Refused 14 1 ∷ []) ∷ [])
    ∷ []

-- what the definitions make of a row's sessions
abbrev pub played : Row → List Outcome
played r = map play r.sessions

abbrev pub documented : Row → List Outcome
documented r = r.outcomes
