-- The text of a line and of the counts. Document 01, "Log program": "It prints each frame's place and outcome, then counts."
use Rattle.std.specs.Prelude.{ℕ, zero, suc, ◌+◌, ◌/◌, ◌%◌, true, false, List, [], ◌∷◌, ◌++◌, ltb}
use Prim.Native.String.{String, len, char_at}
use Prim.Native.Char.{code}
use Rattle.tally.specs.declared.Outcome.{Outcome}
use Rattle.tally.specs.declared.Outcome.TheVariants.{Setup, Done, Granted, Refused}
use Rattle.tally.specs.declared.Tally.{Tally}

-- the bytes of a text in ASCII: those of its characters from place i on, k of them
abbrev pub codes : String → ℕ → ℕ → List ℕ
codes s zero i = []
codes s (suc k) i = code (char_at s i) ∷ codes s k (i + 1)

abbrev pub ascii : String → List ℕ
ascii s = codes s (len s) 0

-- the digit of a number below 10
abbrev pub digit : ℕ → ℕ
digit d = 48 + d

-- x in decimal, in at most k digits, with no zero in front: the digits of a tenth of it, then the last
unfoldable pub decimal_of : ℕ → ℕ → List ℕ
decimal_of zero x = []
decimal_of (suc k) x = (elim (ltb x 10) [ true ↦ [] | false ↦ decimal_of k (x / 10) ]) ++ (digit (x % 10) ∷ [])

-- every number of 32 bits has at most ten digits
unfoldable pub decimal : ℕ → List ℕ
decimal x = decimal_of 10 x

-- a text with a number after it
unfoldable pub item : List ℕ → ℕ → List ℕ
item text x = text ++ decimal x

-- the same at a line's end
unfoldable pub last_item : List ℕ → ℕ → List ℕ
last_item text x = item text x ++ ascii "\n"

-- "Fields are the reply's, in order; 'setup' has n, 'refused' has number and tried."
abbrev pub said : Outcome → List ℕ
said (Setup n) = last_item (ascii " setup ") n
said (Done v) = last_item (ascii " done ") v
said (Granted j low stars t) = item (ascii " granted ") j ++ (item (ascii " ") low ++ (item (ascii " ") stars ++ last_item (ascii " ") t))
said (Refused m t) = item (ascii " refused ") m ++ last_item (ascii " ") t

-- "each frame's place and outcome"
unfoldable pub line_of : ℕ → Outcome → List ℕ
line_of place o = decimal place ++ said o

-- the counts, "of lines and of each outcome"
unfoldable pub totals_of : Tally → List ℕ
totals_of t =
    item (ascii "total ") t.total
    ++ (item (ascii " setup ") t.setup
    ++ (item (ascii " done ") t.done
    ++ (item (ascii " granted ") t.granted
    ++ last_item (ascii " refused ") t.refused)))
